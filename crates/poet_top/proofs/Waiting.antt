-- What a reader and a list are once batches that waited were taken.
use Rattle.std.proofs.Common.{◌≡◌, ◌<◌, ◌⊎◌, ℕ, inl, inr, List, [], ◌∷◌, ◌++◌, refl, sym, ◌∙◌, ap, subst, append_assoc, append-nil}
use Rattle.causal_base.specs.declared.entry.Entry.{Entry}
use Rattle.causal_base.specs.declared.event.Event.{Event}
use Rattle.causal_base.specs.Types.{TypeTable}
use Rattle.raw_reader.specs.ReaderState.{ReaderState, HasRead, HasReadToEnd}
use Rattle.raw_reader.specs.Texts.{events_of}
use Rattle.raw_reader.proofs.CallerLemmas.{closed_stays, stands_closed, ended_closed}
use Rattle.causal_base.specs.declared.limits.TheConstants.{MOST_PLAIN_EVENTS}
use Rattle.poet_top.specs.Ask.{count_of_ids, HasManyIds}
use Rattle.poet_top.specs.Taking.{HasTaken, HasTakenFrom}

-- the events of batches and of one more, and of others
pub events_append : (batches others : List (List Event)) → events_of (batches ++ others) ≡ events_of batches ++ events_of others
events_append [] others = refl
events_append (batch ∷ batches) others = ap (λ events. batch ++ events) (events_append batches others) ∙ sym (append_assoc batch (events_of batches) (events_of others))

-- Batches that waited at first were taken, and one thread has taken their events.
pub record HasTakenWaiting (first reader : ReaderState) (types : TypeTable) (before journal : List Entry) : Type 0 where
  pub given : List (List Event)
  pub waited : first.waiting ≡ given ++ reader.waiting
  pub same : reader ≡ record first { waiting = reader.waiting }
  pub going_on : (fed : List ℕ) (taken : List (List Event)) → HasRead first fed taken → HasRead reader fed (taken ++ given)
  pub at_end : (fed : List ℕ) (taken : List (List Event)) → HasReadToEnd first fed taken → HasReadToEnd reader fed (taken ++ given)
  pub took : (events : List Event) → HasTaken types events before → HasTaken types (events ++ events_of given) journal

-- none was taken yet
pub waiting_none : (first : ReaderState) (types : TypeTable) (before : List Entry) → HasTakenWaiting first first types before before
waiting_none first types before = record {
  given = [];
  waited = refl;
  same = refl;
  going_on = λ fed taken stands. subst (HasRead first fed) (sym (append-nil taken)) stands;
  at_end = λ fed taken stands. subst (HasReadToEnd first fed) (sym (append-nil taken)) stands;
  took = λ events has. subst (λ es. HasTaken types es before) (sym (append-nil events)) has;
}

module _ (first reader : ReaderState) (types : TypeTable) (before journal : List Entry) (now : HasTakenWaiting first reader types before journal) where
  -- one more is taken
  pub waiting_more : (batch : List Event) (later : ReaderState) (journal' : List Entry) → reader.waiting ≡ batch ∷ later.waiting → later ≡ record reader { waiting = later.waiting }
      → ((fed : List ℕ) (taken : List (List Event)) → HasRead reader fed taken → HasRead later fed (taken ++ batch ∷ []))
      → ((fed : List ℕ) (taken : List (List Event)) → HasReadToEnd reader fed taken → HasReadToEnd later fed (taken ++ batch ∷ []))
      → ((events : List Event) → HasTaken types events journal → HasTaken types (events ++ batch) journal')
      → HasTakenWaiting first later types before journal'
  waiting_more batch later journal' is rest stands at_end offered = record {
    given = now.given ++ batch ∷ [];
    waited = now.waited ∙ (ap (λ w. now.given ++ w) is ∙ sym (append_assoc now.given (batch ∷ []) later.waiting));
    same = rest ∙ ap (λ (r : ReaderState). record r { waiting = later.waiting }) now.same;
    going_on = λ fed taken standing. subst (HasRead later fed) (append_assoc taken now.given (batch ∷ [])) (stands fed (taken ++ now.given) (now.going_on fed taken standing));
    at_end = λ fed taken standing. subst (HasReadToEnd later fed) (append_assoc taken now.given (batch ∷ [])) (at_end fed (taken ++ now.given) (now.at_end fed taken standing));
    took = λ events has. subst (λ es. HasTaken types es journal')
        (append_assoc events (events_of now.given) batch ∙ ap (λ es. events ++ es) (ap (λ es. events_of now.given ++ es) (sym (append-nil batch)) ∙ sym (events_append now.given (batch ∷ []))))
        (offered (events ++ events_of now.given) (now.took events has));
  }

  -- what the reader was taken from, it is taken from now
  module _ (Stands : ReaderState → List ℕ → List (List Event) → Type 0) (types_are : first.types ≡ types) where
    pub waiting_from : ((fed : List ℕ) (taken : List (List Event)) → Stands first fed taken → Stands reader fed (taken ++ now.given)) → (fed : List ℕ) → HasTakenFrom Stands first fed before → HasTakenFrom Stands reader fed journal
    waiting_from stands fed has =
        let its_types : reader.types ≡ first.types = ap (λ (r : ReaderState). r.types) now.same in
        let events = subst (λ (t : TypeTable). HasTaken t (events_of has.taken) before) types_are has.events in
        record {
          taken = has.taken ++ now.given;
          stands = stands fed has.taken has.stands;
          events = subst (λ (t : TypeTable). HasTaken t (events_of (has.taken ++ now.given)) journal) (sym (its_types ∙ types_are))
              (subst (λ es. HasTaken types es journal) (sym (events_append has.taken now.given)) (now.took (events_of has.taken) events));
        }

  -- the reader has read what it had read, with the batches that were taken
  pub waiting_stands : (fed : List ℕ) → HasTakenFrom HasRead first fed before ⊎ HasTakenFrom HasReadToEnd first fed before → (taken : List (List Event)) × (HasRead reader fed taken ⊎ HasReadToEnd reader fed taken)
  waiting_stands fed has = elim has [
    | inl on ↦ (on.taken ++ now.given, inl (now.going_on fed on.taken on.stands))
    | inr ended ↦ (ended.taken ++ now.given, inr (now.at_end fed ended.taken ended.stands))
  ]

  -- where the list is full for an event of a batch, the text has more ids than it takes
  module _ (types_are : first.types ≡ types) (batch : List Event) (rest : List (List Event)) (is : reader.waiting ≡ batch ∷ rest) (full : (events others : List Event) → HasTaken types events journal → MOST_PLAIN_EVENTS < count_of_ids (events ++ (batch ++ others))) where
    many : (taken : List (List Event)) → HasTaken first.types (events_of taken) before → MOST_PLAIN_EVENTS < count_of_ids (events_of (taken ++ first.waiting))
    many taken has =
        let events = subst (λ (t : TypeTable). HasTaken t (events_of taken) before) types_are has in
        let more = full (events_of taken ++ events_of now.given) (events_of rest) (now.took (events_of taken) events) in
        let given : events_of (now.given ++ batch ∷ rest) ≡ events_of now.given ++ (batch ++ events_of rest) = events_append now.given (batch ∷ rest) in
        let whole : events_of (taken ++ first.waiting) ≡ (events_of taken ++ events_of now.given) ++ (batch ++ events_of rest) =
        events_append taken first.waiting ∙ (ap (λ w. events_of taken ++ events_of w) (now.waited ∙ ap (λ w. now.given ++ w) is) ∙ (ap (λ es. events_of taken ++ es) given ∙ sym (append_assoc (events_of taken) (events_of now.given) (batch ++ events_of rest)))) in
        subst (λ es. MOST_PLAIN_EVENTS < count_of_ids es) (sym whole) more

    pub many_on : (fed more : List ℕ) → HasTakenFrom HasRead first fed before → HasManyIds types (fed ++ more)
    many_on fed more on = subst (λ (t : TypeTable). HasManyIds t (fed ++ more)) types_are (record {
      batches = on.taken ++ first.waiting;
      closed = inl (closed_stays first.types fed more (on.taken ++ first.waiting) (stands_closed first fed on.taken on.stands));
      many = many on.taken on.events;
    })

    pub many_at_end : (fed : List ℕ) → HasTakenFrom HasReadToEnd first fed before → HasManyIds types fed
    many_at_end fed ended = subst (λ (t : TypeTable). HasManyIds t fed) types_are (record {
      batches = ended.taken ++ first.waiting;
      closed = ended_closed first fed ended.taken ended.stands;
      many = many ended.taken ended.events;
    })
