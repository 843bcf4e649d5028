-- Lines of which each is an event have batches with these events.
use Rattle.std.proofs.Common.{◌≡◌, true, false, cond, List, [], ◌∷◌, ◌++◌, length, refl, sym, ◌∙◌, ap, append_assoc, append-nil}
use Rattle.std.specs.Prelude.{◌==◌, map}
use Rattle.std.specs.List.{AllByRecursion}
use Rattle.std.proofs.lemmas.Grind.{flat_map-append}
use Rattle.causal_base.specs.declared.event.Event.{Event}
use Rattle.causal_base.specs.Event.{IsFit}
use Rattle.causal_base.specs.Types.{TypeTable}
use Rattle.raw_reader.specs.declared.limits.TheConstants.{MOST_IN_BATCH}
use Rattle.raw_reader.specs.Texts.{says, IsFitLine, Batches, piece_of, closed_off, batches_with, batches_from, batches_of, events_of}

-- the events of batches, the begun one among them
abbrev events_in : Batches → List Event
events_in batches = events_of batches.closed ++ batches.begun

-- the piece of the open batch has its events
events_of-piece : (begun : List Event) → events_of (piece_of begun) ≡ begun
events_of-piece [] = refl
events_of-piece (e ∷ events) = append-nil (e ∷ events)

-- to close the open batch leaves the events
events_of-closed_off : (batches : Batches) → events_of (closed_off batches).closed ≡ events_in batches
events_of-closed_off batches =
    flat_map-append (λ (batch : List Event). batch) batches.closed (piece_of batches.begun) ∙ ap (λ events. events_of batches.closed ++ events) (events_of-piece batches.begun)

-- a line that is an event puts it behind the others
events_in-says : (batches : Batches) (e : Event) → events_in (batches_with batches (says e)) ≡ events_in batches ++ e ∷ []
events_in-says batches e =
    let more : Batches = record { closed = batches.closed; begun = batches.begun ++ e ∷ [] } in
    let behind : events_in more ≡ events_in batches ++ e ∷ [] = sym (append_assoc (events_of batches.closed) batches.begun (e ∷ [])) in
    elim (length more.begun == MOST_IN_BATCH) as (λ b. events_in (cond b (closed_off more) more) ≡ events_in batches ++ e ∷ []) [
      | true ↦ append-nil (events_of (closed_off more).closed) ∙ (events_of-closed_off more ∙ behind)
      | false ↦ behind
    ]

-- and so do more such lines
events_in-map : (batches : Batches) (events : List Event) → events_in (batches_from batches (map says events)) ≡ events_in batches ++ events
events_in-map batches [] = sym (append-nil (events_in batches))
events_in-map batches (e ∷ events) =
    events_in-map (batches_with batches (says e)) events
    ∙ (ap (λ before. before ++ events) (events_in-says batches e) ∙ append_assoc (events_in batches) (e ∷ []) events)

-- so the batches of such lines have their events
pub events_of-lines : (events : List Event) → events_of (closed_off (batches_of (map says events))).closed ≡ events
events_of-lines events = events_of-closed_off (batches_of (map says events)) ∙ events_in-map (record { closed = []; begun = [] }) events

-- the line of a fit event is fit
pub says_fit : (types : TypeTable) (events : List Event) → AllByRecursion (IsFit types) events → AllByRecursion (IsFitLine types) (map says events)
says_fit types [] fit = tt
says_fit types (e ∷ events) fit = (fit.0, says_fit types events fit.1)
