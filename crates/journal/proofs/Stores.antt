-- What is kept of a journal, as it goes on.
use Rattle.std.proofs.Common.{◌≡◌, ◌≢◌, ◌<◌, ◌≤◌, ◌+◌, ◌*◌, ℕ, suc, zero, List, [], ◌∷◌, ◌++◌, length, length-append, reverse, inl, inr, refl, sym, ◌∙◌, ap, subst, arith, None, Some}
use Rattle.std.specs.Prelude.{All, Contains, IsSome, option_and_then, slice_get, slice_index, slice_set}
use Rattle.std.specs.Option.{is_some, option_map}
use Rattle.std.proofs.lemmas.Bool.{cases_eq, cases_lt}
use Rattle.std.proofs.lemmas.List.{length-reverse, reverse-append}
use Rattle.std.proofs.lemmas.List.Elements.{All-push, Contains-append_cases, Contains-append_left, Contains-append_right}
use Rattle.std.proofs.lemmas.Option.{slice_get_past}
use Rattle.causal_base.specs.declared.entry.Entry.{Entry}
use Rattle.causal_base.specs.declared.entry.Entry.TheVariants as owned
use Rattle.causal_base.specs.declared.event.Event.{Event}
use Rattle.causal_base.specs.declared.event_id.EventId.{EventId}
use Rattle.causal_base.specs.History.{count_on}
use Rattle.causal_base.specs.Past.{came, delivered, event_of, HasEvent}
use Rattle.causal_base.proofs.CallerLemmas.{counts_next, Contains-here, Contains-nil, Contains-one, delivered-gone, delivered-pair, event_of-member, reverse-push}
use Rattle.shared_list.proofs.CallerLemmas.{slice_get-push_before}
use Rattle.trace_queue.specs.Held.{count_held}
use Rattle.journal.specs.declared.mark.Mark.{Mark}
use Rattle.journal.specs.declared.mark.Mark.TheVariants.{Came, Gone, Pair, Ended}
use Rattle.journal.specs.Marks.{entry_of, entries_of}
use Rattle.journal.specs.Places.{PlaceIndex, place_of, HasPlaces}
use Rattle.journal.specs.Store.{IsStore}
use Rattle.journal.proofs.Orders.{same_or_other}
use Rattle.journal.proofs.Entries.{entries_push, length_entries, same_entries, slice_get_last, slice_get_more, whole_too}

All-nil : {A : Type 0} (P : A → Type 0) → All P []
All-nil P k d h = absurd (omega (arith, h))

reverse-cons : {A : Type 0} (x : A) (xs : List A) → reverse (x ∷ xs) ≡ reverse xs ++ x ∷ []
reverse-cons x xs = reverse-append (x ∷ []) xs

-- what stands at a place of a list is in its reverse
pub reversed_has : {A : Type 0} (xs : List A) (k : ℕ) (x : A) → slice_get xs k ≡ Some x → Contains (reverse xs) x
reversed_has [] k x is = absurd cc
reversed_has {A} (y ∷ ys) zero x is =
    let same : y ≡ x = cc in
    subst (λ zs. Contains zs x) (sym (reverse-cons y ys)) (Contains-append_right (reverse ys) (y ∷ []) x (subst (λ z. Contains (y ∷ []) z) same (Contains-here y [])))
reversed_has (y ∷ ys) (suc k) x is =
    subst (λ zs. Contains zs x) (sym (reverse-cons y ys)) (Contains-append_left (reverse ys) (y ∷ []) x (reversed_has ys k x is))

-- and what is in the reverse stands at some place
pub reversed_place : {A : Type 0} (xs : List A) (x : A) → Contains (reverse xs) x → (k : ℕ) × (slice_get xs k ≡ Some x)
reversed_place [] x inside = absurd (Contains-nil x inside)
reversed_place (y ∷ ys) x inside = elim (Contains-append_cases (reverse ys) (y ∷ []) x (subst (λ zs. Contains zs x) (reverse-cons y ys) inside)) [
  | inl before ↦ let at = reversed_place ys x before in (suc at.0, at.1)
  | inr last ↦ (0, ap Some (Contains-one y x last))
]

-- the empty store
pub empty_store : (room : ℕ) (index : PlaceIndex) (counts : List ℕ) → 16 ≤ room → ((id : EventId) → place_of index id ≡ None) → count_held index.early ≡ 0 → ((trace : ℕ) → trace < 256 → slice_index counts trace ≡ 0) → IsStore [] [] room index counts 0
empty_store room index counts enough none held zeros = record {
  whole = All-nil (λ mark. IsSome (entry_of [] mark));
  came_in = refl;
  places = record {
    sound = λ id place is. absurd (let clash : None ≡ Some place = sym (none id) ∙ is in cc);
    complete = λ place e is. absurd cc;
  };
  counts_are = λ trace below. zeros trace below;
  gone_is = refl;
  enough = omega (arith, enough);
  within = omega arith;
  few = omega arith;
  early_few = omega (arith, held);
}

-- where an id has no place before and after, and the others the same, each has the same
pub same_places : (index later : PlaceIndex) (id : EventId) → place_of index id ≡ None → place_of later id ≡ None → ((other : EventId) → other ≢ id → place_of later other ≡ place_of index other) → (other : EventId) → place_of later other ≡ place_of index other
same_places index later id none still others other = elim (same_or_other other id) [
  | inl same ↦ subst (λ i. place_of later i ≡ place_of index i) (sym same) (still ∙ sym none)
  | inr apart ↦ others other apart
]

module _ (events : List Event) (marks : List Mark) (room : ℕ) (index : PlaceIndex) (counts : List ℕ) (gone : ℕ) (store : IsStore events marks room index counts gone) where
  abbrev entries : List Entry
  entries = entries_of events marks

  pub length_came : length (came (reverse entries)) ≡ length events
  length_came = ap length store.came_in ∙ length-reverse events

  -- the event at the place of its id, and no other
  pub found : (id : EventId) (place : ℕ) → place_of index id ≡ Some place → (e : Event) × (slice_get events place ≡ Some e) × Contains (came (reverse entries)) e × (e.id ≡ id)
  found id place is =
      let at = store.places.sound id place is in
      (at.0, at.1, subst (λ es. Contains es at.0) (sym store.came_in) (reversed_has events place at.0 at.1), at.2)

  pub not_found : (id : EventId) → place_of index id ≡ None → HasEvent (came (reverse entries)) id → ⊥
  not_found id none there =
      let at = reversed_place events there.0 (subst (λ es. Contains es there.0) store.came_in there.1) in
      let some = store.places.complete at.0 there.0 at.1 in
      let clash : None ≡ Some at.0 = sym none ∙ (ap (place_of index) (sym there.2) ∙ some) in
      absurd cc

  -- an id of no event has no place
  pub no_place : (id : EventId) → (HasEvent (came (reverse entries)) id → ⊥) → place_of index id ≡ None
  no_place id absent = elim (place_of index id) as (λ o. place_of index id ≡ o → o ≡ None) [
    | None ↦ λ is. refl
    | Some place ↦ λ is. let its = found id place is in absurd (absent (its.0, its.2, its.3))
  ] refl

  -- an event that came is at the place of its id
  pub place_found : (id : EventId) (e : Event) → event_of (came (reverse entries)) id ≡ Some e → (place : ℕ) → place_of index id ≡ Some place → slice_get events place ≡ Some e
  place_found id e is place at =
      let member = event_of-member (came (reverse entries)) id e is in
      let its = reversed_place events e (subst (λ es. Contains es e) store.came_in member.0) in
      let same : Some its.0 ≡ Some place = sym (store.places.complete its.0 e its.1) ∙ (ap (place_of index) member.1 ∙ at) in
      let is_place : its.0 ≡ place = cc in
      subst (λ k. slice_get events k ≡ Some e) is_place its.1

  -- and has a place
  pub has_place : (id : EventId) (e : Event) → event_of (came (reverse entries)) id ≡ Some e → place_of index id ≡ None → ⊥
  has_place id e is none = let member = event_of-member (came (reverse entries)) id e is in not_found id none (e, member.0, member.1)

  -- fewer entries than there is room for, for what came
  abbrev pub IsFewer : Type 0
  IsFewer = length entries < 2 * length (came (reverse entries)) + 16

  pub room_left : IsFewer → length marks < room
  room_left fewer =
      let all = length_entries events marks store.whole in
      let enough = store.enough in
      omega (arith, fewer, all, length_came, enough)

  -- the store with more room, and an index of the same places
  pub kept_store : (more : ℕ) (later : PlaceIndex) → room ≤ more → ((id : EventId) → place_of later id ≡ place_of index id) → count_held later.early ≤ count_held index.early → IsStore events marks more later counts gone
  kept_store more later enough same held = record {
    whole = store.whole;
    came_in = store.came_in;
    places = record {
      sound = λ id place is. store.places.sound id place (sym (same id) ∙ is);
      complete = λ place e is. same e.id ∙ store.places.complete place e is;
    };
    counts_are = store.counts_are;
    gone_is = store.gone_is;
    enough = let old = store.enough in omega (arith, old, enough);
    within = store.within;
    few = store.few;
    early_few = let old = store.early_few in omega (arith, old, held);
  }

  -- the store after an event came
  module _ (e : Event) (collector : ℕ) (new : HasEvent (came (reverse entries)) e.id → ⊥) (later : PlaceIndex) (here : place_of later e.id ≡ Some (length events)) (others : (other : EventId) → other ≢ e.id → place_of later other ≡ place_of index other) where
    abbrev events_after : List Event
    events_after = events ++ e ∷ []

    abbrev marks_after : List Mark
    marks_after = marks ++ Came collector (length events) ∷ []

    last : entry_of events_after (Came collector (length events)) ≡ Some (owned.Came collector e)
    last = ap (option_map (λ x. owned.Came collector x)) (slice_get_last events e)

    pub entries_came : entries_of events_after marks_after ≡ entries ++ owned.Came collector e ∷ []
    entries_came =
        entries_push events_after marks (Came collector (length events)) (owned.Came collector e) last
        ∙ ap (λ es. es ++ owned.Came collector e ∷ []) (same_entries events (e ∷ []) marks store.whole)

    past_came : reverse (entries_of events_after marks_after) ≡ owned.Came collector e ∷ reverse entries
    past_came = ap reverse entries_came ∙ reverse-push entries (owned.Came collector e)

    places_came : HasPlaces events_after later
    places_came = record {
      sound = λ id place is. elim (same_or_other id e.id) [
        | inl same ↦
            let at : Some (length events) ≡ Some place = sym here ∙ (ap (place_of later) (sym same) ∙ is) in
            let its : length events ≡ place = cc in
            (e, subst (λ k. slice_get events_after k ≡ Some e) its (slice_get_last events e), sym same)
        | inr apart ↦
            let at = store.places.sound id place (sym (others id apart) ∙ is) in
            (at.0, slice_get_more events (e ∷ []) place at.0 at.1, at.2)
      ];
      complete = λ place x is. elim (cases_lt place (length events)) [
        | inl low ↦
            let before : slice_get events place ≡ Some x = sym (slice_get-push_before events e place low) ∙ is in
            let inside = subst (λ es. Contains es x) (sym store.came_in) (reversed_has events place x before) in
            others x.id (λ same. new (x, inside, same)) ∙ store.places.complete place x before
        | inr high ↦ elim (cases_eq place (length events)) [
          | inl at ↦
              let both : Some e ≡ Some x = sym (slice_get_last events e) ∙ (ap (slice_get events_after) (sym at) ∙ is) in
              let same : e ≡ x = cc in
              subst (λ (v : Event). place_of later v.id ≡ Some place) same (here ∙ ap Some (sym at))
          | inr past ↦
              let none = slice_get_past events_after place (let long = length-append events (e ∷ []) in omega (arith, high, past, long)) in
              absurd (let clash : None ≡ Some x = sym none ∙ is in cc)
        ]
      ];
    }

    pub came_store : (more : ℕ) → 2 * (length events + 1) + 16 ≤ more → length events < 400_000 → count_held later.early ≤ length events + 1 → IsStore events_after marks_after more later counts gone
    came_store more enough few held = record {
      whole = All-push (λ m. IsSome (entry_of events_after m)) marks (Came collector (length events)) (whole_too events (e ∷ []) marks store.whole) (ap is_some last);
      came_in = ap came past_came ∙ (ap (λ es. e ∷ es) store.came_in ∙ sym (reverse-append events (e ∷ [])));
      places = places_came;
      counts_are = λ trace below. store.counts_are trace below ∙ sym (ap (λ past. count_on trace (delivered past)) past_came);
      gone_is = store.gone_is ∙ sym (ap (λ past. length (delivered past)) past_came);
      enough = let long = length-append events (e ∷ []) in omega (arith, enough, long);
      within =
          let long = length-append events (e ∷ []) in
          let marked = length-append marks (Came collector (length events) ∷ []) in
          let old = store.within in
          omega (arith, old, long, marked);
      few = let long = length-append events (e ∷ []) in omega (arith, few, long);
      early_few = let long = length-append events (e ∷ []) in omega (arith, held, long);
    }

  -- what stays where only marks are added
  module _ (mark : Mark) (entry : Entry) (is : entry_of events mark ≡ Some entry) (same_came : came (reverse (entries ++ entry ∷ [])) ≡ came (reverse entries)) where
    pub entries_marked : entries_of events (marks ++ mark ∷ []) ≡ entries ++ entry ∷ []
    entries_marked = entries_push events marks mark entry is

    pub marked_store : IsFewer → (later : List ℕ) (number : ℕ)
        → ((trace : ℕ) → trace < 256 → slice_index later trace ≡ count_on trace (delivered (reverse (entries ++ entry ∷ []))))
        → number ≡ length (delivered (reverse (entries ++ entry ∷ [])))
        → IsStore events (marks ++ mark ∷ []) room index later number
    marked_store fewer later number counted total = record {
      whole = All-push (λ m. IsSome (entry_of events m)) marks mark store.whole (ap is_some is);
      came_in = ap (λ es. came (reverse es)) entries_marked ∙ (same_came ∙ store.came_in);
      places = store.places;
      counts_are = λ trace below. counted trace below ∙ ap (λ es. count_on trace (delivered (reverse es))) (sym entries_marked);
      gone_is = total ∙ ap (λ es. length (delivered (reverse es))) (sym entries_marked);
      enough = store.enough;
      within =
          let marked = length-append marks (mark ∷ []) in
          let all = length_entries events marks store.whole in
          omega (arith, marked, all, fewer, length_came);
      few = store.few;
      early_few = store.early_few;
    }

  same_came_gone : (entry : Entry) → came (entry ∷ reverse entries) ≡ came (reverse entries) → came (reverse (entries ++ entry ∷ [])) ≡ came (reverse entries)
  same_came_gone entry same = ap came (reverse-push entries entry) ∙ same

  -- the store after an event was delivered
  module _ (id : EventId) (e : Event) (is : event_of (came (reverse entries)) id ≡ Some e) (place : ℕ) (at : place_of index id ≡ Some place) (below : id.trace < 256) (size : length counts ≡ 256) where
    gone_mark : entry_of events (Gone place) ≡ Some (owned.Gone id)
    gone_mark =
        let member = event_of-member (came (reverse entries)) id e is in
        ap (option_map (λ (x : Event). owned.Gone x.id)) (place_found id e is place at) ∙ ap (λ i. Some (owned.Gone i)) member.1

    pub entries_gone : entries_of events (marks ++ Gone place ∷ []) ≡ entries ++ owned.Gone id ∷ []
    entries_gone = entries_marked (Gone place) (owned.Gone id) gone_mark (same_came_gone (owned.Gone id) refl)

    pub gone_store : IsFewer → IsStore events (marks ++ Gone place ∷ []) room index (slice_set counts id.trace (slice_index counts id.trace + 1)) (gone + 1)
    gone_store fewer =
        let after = delivered-gone entries id e is in
        let member = event_of-member (came (reverse entries)) id e is in
        marked_store (Gone place) (owned.Gone id) gone_mark (same_came_gone (owned.Gone id) refl) fewer (slice_set counts id.trace (slice_index counts id.trace + 1)) (gone + 1)
        (λ trace low. counts_next counts (delivered (reverse entries)) size store.counts_are id e member.1 below trace low ∙ ap (count_on trace) (sym after))
        (let more = ap length after in omega (arith, more, store.gone_is))

  -- and after two partners were
  module _ (a b : EventId) (x y : Event) (is_a : event_of (came (reverse entries)) a ≡ Some x) (is_b : event_of (came (reverse entries)) b ≡ Some y) (first second : ℕ) (at_a : place_of index a ≡ Some first) (at_b : place_of index b ≡ Some second) (below_a : a.trace < 256) (below_b : b.trace < 256) (size : length counts ≡ 256) where
    pair_mark : entry_of events (Pair first second) ≡ Some (owned.Pair a b)
    pair_mark =
        let member_a = event_of-member (came (reverse entries)) a x is_a in
        let member_b = event_of-member (came (reverse entries)) b y is_b in
        ap (λ o. option_and_then (λ (v : Event). option_map (λ (w : Event). owned.Pair v.id w.id) (slice_get events second)) o) (place_found a x is_a first at_a)
        ∙ (ap (option_map (λ (w : Event). owned.Pair x.id w.id)) (place_found b y is_b second at_b)
        ∙ (ap (λ i. Some (owned.Pair i y.id)) member_a.1 ∙ ap (λ i. Some (owned.Pair a i)) member_b.1))

    pub entries_pair : entries_of events (marks ++ Pair first second ∷ []) ≡ entries ++ owned.Pair a b ∷ []
    entries_pair = entries_marked (Pair first second) (owned.Pair a b) pair_mark (same_came_gone (owned.Pair a b) refl)

    pub pair_store : (between : List ℕ) → between ≡ slice_set counts a.trace (slice_index counts a.trace + 1) → length between ≡ 256 → IsFewer → IsStore events (marks ++ Pair first second ∷ []) room index (slice_set between b.trace (slice_index between b.trace + 1)) (gone + 2)
    pair_store between is size_too fewer =
        let after = delivered-pair entries a b x y is_a is_b in
        let member_a = event_of-member (came (reverse entries)) a x is_a in
        let member_b = event_of-member (came (reverse entries)) b y is_b in
        marked_store (Pair first second) (owned.Pair a b) pair_mark (same_came_gone (owned.Pair a b) refl) fewer (slice_set between b.trace (slice_index between b.trace + 1)) (gone + 2)
        (λ trace low.
        counts_next between (x ∷ delivered (reverse entries)) size_too
        (λ t within. ap (λ cs. slice_index cs t) is ∙ counts_next counts (delivered (reverse entries)) size store.counts_are a x member_a.1 below_a t within)
        b y member_b.1 below_b trace low
        ∙ ap (count_on trace) (sym after))
        (let more = ap length after in omega (arith, more, store.gone_is))

  -- and after a collector ended
  module _ (collector : ℕ) where
    pub entries_ended : entries_of events (marks ++ Ended collector ∷ []) ≡ entries ++ owned.Ended collector ∷ []
    entries_ended = entries_marked (Ended collector) (owned.Ended collector) refl (same_came_gone (owned.Ended collector) refl)

    pub ended_store : IsFewer → IsStore events (marks ++ Ended collector ∷ []) room index counts gone
    ended_store fewer =
        let past = reverse-push entries (owned.Ended collector) in
        marked_store (Ended collector) (owned.Ended collector) refl (same_came_gone (owned.Ended collector) refl) fewer counts gone
        (λ trace low. store.counts_are trace low ∙ ap (λ p. count_on trace (delivered p)) (sym past))
        (store.gone_is ∙ ap (λ p. length (delivered p)) (sym past))
