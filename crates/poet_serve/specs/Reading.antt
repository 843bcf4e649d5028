-- Which events a collector has read of its source, by what it stopped at.
use Rattle.std.specs.Prelude.{◌≡◌, ◌⊎◌, ℕ, List, [], ◌∷◌, ◌++◌, IfSome}
use Rattle.causal_base.specs.declared.event.Event.{Event}
use Rattle.causal_base.specs.Types.{TypeTable}
use Rattle.poet_io.specs.Faults.{IsRaised}
use Rattle.poet_io.specs.SourceState.{SourceState}
use Rattle.poet_io.specs.Takes.{LeavesRest}
use Rattle.raw_reader.specs.Texts.{events_of, BeginsWithBatches, IsGoodText, IsOpenText, HasFault}
use Rattle.poet_serve.specs.declared.report.Stop.{Stop}
use Rattle.poet_serve.specs.declared.report.Stop.TheVariants.{End, Read, Line, Full, Memory}

-- These are the batches with which a text begins, whatever follows, or all of its batches.
abbrev pub AreBatchesOf : TypeTable → List ℕ → List (List Event) → Type 0
AreBatchesOf types bytes batches =
    BeginsWithBatches types bytes batches ⊎ IsGoodText types bytes batches

-- The source had these bytes, of which this is left, and these are the events that were read:
-- at its end all of a good text; at a fault of a line those of the batches before it; where a read
-- failed those of the batches that were closed before, with no fault in them; at an event that met
-- the limit those before it; and where memory ran out some with which the text begins.
abbrev pub AreReadOf : TypeTable → (bytes left : List ℕ) → Stop → List Event → Type 0
AreReadOf types bytes left End events = (left ≡ [])
    × ((batches : List (List Event)) × IsGoodText types bytes batches × (events ≡ events_of batches))
AreReadOf types bytes left (Line error) events = (batches : List (List Event))
    × HasFault types bytes batches error × (events ≡ events_of batches)
AreReadOf types bytes left Read events = (read : List ℕ) × (batches : List (List Event))
    × (bytes ≡ read ++ left) × IsOpenText types read batches × (events ≡ events_of batches)
AreReadOf types bytes left (Full id) events = (batches : List (List Event)) × (e : Event)
    × (others : List Event) × AreBatchesOf types bytes batches
    × (events_of batches ≡ events ++ e ∷ others) × (e.id ≡ id)
AreReadOf types bytes left Memory events = (batches : List (List Event)) × (others : List Event)
    × AreBatchesOf types bytes batches × (events_of batches ≡ events ++ others)

-- the count of a source's faults rose where a read failed, and else stayed
abbrev pub CountsStop : Stop → (before after : ℕ) → Type 0
CountsStop Read before after = IsRaised before after
CountsStop stop before after = after ≡ before

-- What became of a source: it is that of the same name, an end of its bytes is left, its count of
-- faults is right, and the events were read of its bytes, where it tells them.
pub record IsReadOf (types : TypeTable) (before after : SourceState) (stop : Stop)
    (events : List Event) : Type 0 where
  pub same_name : after.name ≡ before.name
  pub rest : LeavesRest before.left after.left
  pub faults : CountsStop stop before.faults after.faults
  pub told : IfSome before.left (λ bytes. IfSome after.left
      (λ left. AreReadOf types bytes left stop events))
