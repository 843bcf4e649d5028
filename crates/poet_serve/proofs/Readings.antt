-- A source is read in one way.
use Rattle.std.proofs.Common.{◌≡◌, ℕ, List, [], ◌∷◌, IfSome, refl, sym, ◌∙◌, ap, subst}
use Rattle.std.proofs.lemmas.List.{append_cancel_right}
use Rattle.std.specs.List.{AllByRecursion}
use Rattle.causal_base.specs.declared.event.Event.{Event}
use Rattle.causal_base.specs.Types.{TypeTable}
use Rattle.raw_reader.specs.declared.cause.LineError.{LineError}
use Rattle.raw_reader.specs.Texts.{events_of, HasFault, IsGoodText, IsOpenText}
use Rattle.poet_serve.specs.declared.report.Stop.{Stop}
use Rattle.poet_serve.specs.declared.report.Stop.TheVariants.{End, Full, Line, Memory, Read}
use Rattle.poet_serve.specs.Reading.{AreReadOf, IsReadOf}
use Rattle.poet_serve.specs.Transcripts.{AreReadBy, Collected, HasOneReading, IsOfSource}

-- a text has its batches in one way
abbrev pub OpenOnce : TypeTable → Type 0
OpenOnce types = (bytes : List ℕ) (batches others : List (List Event)) → IsOpenText types bytes batches → IsOpenText types bytes others → batches ≡ others

abbrev pub GoodOnce : TypeTable → Type 0
GoodOnce types = (bytes : List ℕ) (batches others : List (List Event)) → IsGoodText types bytes batches → IsGoodText types bytes others → batches ≡ others

abbrev pub FaultyOnce : TypeTable → Type 0
FaultyOnce types = (bytes : List ℕ) (batches others : List (List Event)) (error other : LineError) → HasFault types bytes batches error → HasFault types bytes others other → (batches ≡ others) × (error ≡ other)

module _ (types : TypeTable) (open_once : OpenOnce types) (good_once : GoodOnce types) (faulty_once : FaultyOnce types) where
  same_events : (events others : List Event) (batches other : List (List Event)) → events ≡ events_of batches → others ≡ events_of other → batches ≡ other → events ≡ others
  same_events events others batches other one two same = one ∙ (ap events_of same ∙ sym two)

  events_once : (bytes left : List ℕ) (stop : Stop) → IsOfSource stop → (events others : List Event) → AreReadOf types bytes left stop events → AreReadOf types bytes left stop others → events ≡ others
  events_once bytes left End is events others (ends, (batches, good, one)) (ended, (other, as_good, two)) = same_events events others batches other one two (good_once bytes batches other good as_good)
  events_once bytes left Read is events others (read, batches, whole, is_open, one) (again, other, as_whole, as_open, two) =
      let same : again ≡ read = append_cancel_right again read left (sym as_whole ∙ whole) in
      same_events events others batches other one two (open_once read batches other is_open (subst (λ (l : List ℕ). IsOpenText types l other) same as_open))
  events_once bytes left (Line error) is events others (batches, faulty, one) (other, as_faulty, two) = same_events events others batches other one two (faulty_once bytes batches other error error faulty as_faulty).0
  events_once bytes left (Full id) is events others one two = absurd is
  events_once bytes left Memory is events others one two = absurd is

  told_of : (one : Collected) (is : HasOneReading one) (events : List Event) → IsReadOf types one.before one.after one.told.stop events → AreReadOf types is.had is.left one.told.stop events
  told_of one is events read =
      let before = subst (λ before. IfSome before (λ bytes. IfSome one.after.left (λ left. AreReadOf types bytes left one.told.stop events))) is.had_is read.told in
      subst (λ after. IfSome after (λ left. AreReadOf types is.had left one.told.stop events)) is.left_is before

  -- and the lists of all collectors are one
  pub lists_once : (all : List Collected) (lists others : List (List Event)) → AllByRecursion HasOneReading all → AreReadBy types all lists → AreReadBy types all others → lists ≡ others
  lists_once [] [] [] is read again = refl
  lists_once [] [] (other ∷ others) is read again = absurd again
  lists_once [] (events ∷ lists) others is read again = absurd read
  lists_once (one ∷ all) [] others is read again = absurd read
  lists_once (one ∷ all) (events ∷ lists) [] is read again = absurd again
  lists_once (one ∷ all) (events ∷ lists) (other ∷ others) is read again =
      let first = events_once is.0.had is.0.left one.told.stop is.0.stop events other (told_of one is.0 events read.0) (told_of one is.0 other again.0) in
      ap (λ (e : List Event). e ∷ lists) first ∙ ap (λ (l : List (List Event)). other ∷ l) (lists_once all lists others is.1 read.1 again.1)
