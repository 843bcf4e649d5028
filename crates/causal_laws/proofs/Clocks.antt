use Rattle.std.proofs.Common.{◌≡◌, ◌<◌, ◌≤◌, ℕ, List, [], ◌∷◌, ◌++◌, Bool, true, false, refl, sym, ◌∙◌, ap, subst, arith}
use Rattle.std.specs.Prelude.{Contains, ◌↔◌, ◌&&◌, IsTrue, count_by, nat_le}
use Rattle.std.proofs.lemmas.Bool.{and_parts, and_from, and_right, leb-true, le-leb, lt-leb, false_from_ne_true}
use Rattle.std.proofs.lemmas.List.Elements.{All-contains}
use Rattle.causal_base.specs.declared.event.Event.{Event}
use Rattle.causal_base.specs.Types.{TypeTable}
use Rattle.causal_base.specs.Walks.{Reaches}
use Rattle.causal_base.specs.Clocks.{HasCount, IsClock}
use Rattle.causal_base.specs.History.{EventBlock, alone, together, all_events, count_on, IsCausal}
use Rattle.causal_base.proofs.CallerLemmas.{same_id, Contains-here, Contains-there, IsNumbered, number_within, event_at, same_event, count_on-grows, numbered, count_by_agree, and_true, count_by_skip, All-from_members}
use Rattle.causal_laws.proofs.Prefixes.{Contains-grows}
use Rattle.causal_laws.proofs.Earlier.{older_are_causal, reaches_back_all, reaches_grows_all}

-- tests that are true of the same elements give one answer
same_answer : (P : Type 0) (b d : Bool) → IsTrue b ↔ P → IsTrue d ↔ P → b ≡ d
same_answer P true d b_is d_is = sym (d_is.1 (b_is.0 refl))
same_answer P false true b_is d_is = b_is.1 (d_is.0 refl)
same_answer P false false b_is d_is = refl

-- elements with a property are so many in one way only
pub counts_is_one : {A : Type 0} (Property : A → Type 0) (xs : List A) (m n : ℕ) → HasCount Property xs m → HasCount Property xs n → m ≡ n
counts_is_one {A} Property xs m n one other =
    sym one.number_is
    ∙ count_by_agree one.test other.test xs (λ x inside. same_answer (Property x) (one.test x) (other.test x)
    (All-contains (λ (y : A). IsTrue (one.test y) ↔ Property y) xs x one.decides inside)
    (All-contains (λ (y : A). IsTrue (other.test y) ↔ Property y) xs x other.decides inside))
    ∙ other.number_is

-- added deliveries take nothing from a count
pub count_on-added : (trace : ℕ) (added ds : List EventBlock) → count_on trace (all_events ds) ≤ count_on trace (all_events (added ++ ds))
count_on-added trace [] ds = omega arith
count_on-added trace (alone e ∷ added) ds =
    let rest = count_on-added trace added ds in
    let grows = count_on-grows trace e (all_events (added ++ ds)) in
    omega (arith, rest, grows)
count_on-added trace (together a b ∷ added) ds =
    let es = all_events (added ++ ds) in
    let rest = count_on-added trace added ds in
    let first = count_on-grows trace a es in
    let second = count_on-grows trace b (a ∷ es) in
    omega (arith, rest, first, second)

-- A test that fails each event numbered above the older ones of its trace counts the older ones alone.
count_by_older : (types : TypeTable) (test : Event → Bool) (added ds : List EventBlock) → IsCausal types (added ++ ds) → ((x : Event) → Contains (all_events (added ++ ds)) x → count_on x.id.trace (all_events ds) < x.id.number → test x ≡ false) → count_by test (all_events (added ++ ds)) ≡ count_by test (all_events ds)
count_by_older types test [] ds h fails = refl
count_by_older types test (alone e ∷ added) ds h fails =
    let es = all_events (added ++ ds) in
    let few = count_on-added e.id.trace added ds in
    let not_so : test e ≡ false = fails e (Contains-here e es) (omega (arith, few, h.0.0)) in
    let rest = count_by_older types test added ds h.1 (λ x inside. fails x (Contains-there e es x inside)) in
    count_by_skip test e es not_so ∙ rest
count_by_older types test (together a b ∷ added) ds h fails =
    let es = all_events (added ++ ds) in
    let few_a = count_on-added a.id.trace added ds in
    let few_b = count_on-added b.id.trace added ds in
    let first : test a ≡ false = fails a (Contains-there b (a ∷ es) a (Contains-here a es)) (omega (arith, few_a, h.0.0)) in
    let second : test b ≡ false = fails b (Contains-here b (a ∷ es)) (omega (arith, few_b, h.0.1)) in
    let rest = count_by_older types test added ds h.1 (λ x inside. fails x (Contains-there b (a ∷ es) x (Contains-there a es x inside))) in
    count_by_skip test b (a ∷ es) second ∙ (count_by_skip test a es first ∙ rest)

-- the event passes, and has a number up to the count of its trace
abbrev passes_numbered : (Event → Bool) → List Event → Event → Bool
passes_numbered test events x = test x && nat_le x.id.number (count_on x.id.trace events)

-- an event that reaches e, and lies on the trace
abbrev IsCounted : TypeTable → List Event → Event → ℕ → Event → Type 0
IsCounted types events e trace x = (x.id.trace ≡ trace) × Reaches types events x e

module _ (types : TypeTable) (added ds : List EventBlock) (causal : IsCausal types (added ++ ds)) where
  -- the older events are numbered
  older_numbered : IsNumbered (all_events ds)
  older_numbered = numbered types ds (older_are_causal types added ds causal)

  -- the older events have numbers up to their count
  number_of_older : (x : Event) → Contains (all_events ds) x → x.id.number ≤ count_on x.id.trace (all_events ds)
  number_of_older x inside = (number_within (all_events ds) older_numbered x inside).1

  -- and an event with such a number is one of them
  older_from_number : (x : Event) → Contains (all_events (added ++ ds)) x → x.id.number ≤ count_on x.id.trace (all_events ds) → Contains (all_events ds) x
  older_from_number x inside most =
      let all = numbered types (added ++ ds) causal in
      let least = (number_within (all_events (added ++ ds)) all x inside).0 in
      let found = event_at (all_events ds) older_numbered x.id.trace x.id.number least most in
      let same = same_event (all_events (added ++ ds)) all found.0 x (Contains-grows added ds found.0 found.1) inside (same_id found.0.id x.id found.2 found.3) in
      subst (λ (y : Event). Contains (all_events ds) y) same found.1

  module _ (e : Event) (there : Contains (all_events ds) e) (trace n : ℕ) where
    -- added deliveries leave the clock of an older event
    pub clock_grows : IsClock types (all_events ds) e trace n → IsClock types (all_events (added ++ ds)) e trace n
    clock_grows old = record {
      test = passes_numbered old.test (all_events ds);
      decides = All-from_members (λ (x : Event). IsTrue (passes_numbered old.test (all_events ds) x) ↔ IsCounted types (all_events (added ++ ds)) e trace x) (all_events (added ++ ds)) decides;
      number_is =
          count_by_older types (passes_numbered old.test (all_events ds)) added ds causal (λ x inside above. is_above x above)
          ∙ count_by_agree (passes_numbered old.test (all_events ds)) old.test (all_events ds) (λ x inside. agrees x inside)
          ∙ old.number_is;
    }
      where
        -- the old test decides on the older events
        decided : (x : Event) → Contains (all_events ds) x → IsTrue (old.test x) ↔ IsCounted types (all_events ds) e trace x
        decided x inside = All-contains (λ (y : Event). IsTrue (old.test y) ↔ IsCounted types (all_events ds) e trace y) (all_events ds) x old.decides inside

        -- a number above the count fails
        is_above : (x : Event) → count_on x.id.trace (all_events ds) < x.id.number → passes_numbered old.test (all_events ds) x ≡ false
        is_above x above = and_right (old.test x) (nat_le x.id.number (count_on x.id.trace (all_events ds))) (lt-leb x.id.number (count_on x.id.trace (all_events ds)) above)

        -- an older event has a number up to the count
        is_within : (x : Event) → Contains (all_events ds) x → nat_le x.id.number (count_on x.id.trace (all_events ds)) ≡ true
        is_within x inside = le-leb x.id.number (count_on x.id.trace (all_events ds)) (number_of_older x inside)

        -- so on the older events the tests agree
        agrees : (x : Event) → Contains (all_events ds) x → passes_numbered old.test (all_events ds) x ≡ old.test x
        agrees x inside = ap (λ (b : Bool). old.test x && b) (is_within x inside) ∙ and_true (old.test x)

        -- the new test decides on all events
        decides : (x : Event) → Contains (all_events (added ++ ds)) x → IsTrue (passes_numbered old.test (all_events ds) x) ↔ IsCounted types (all_events (added ++ ds)) e trace x
        decides x inside = (
          (λ passes.
              let parts = and_parts (old.test x) (nat_le x.id.number (count_on x.id.trace (all_events ds))) passes in
              let older = older_from_number x inside (leb-true x.id.number (count_on x.id.trace (all_events ds)) parts.1) in
              let is = (decided x older).0 parts.0 in
              (is.0, reaches_grows_all types added ds x e is.1)),
          (λ is.
              let reaches = reaches_back_all types added ds causal x e there is.1 in
              and_from (old.test x) (nat_le x.id.number (count_on x.id.trace (all_events ds)))
              ((decided x reaches.among).1 (is.0, reaches)) (is_within x reaches.among)),
        )

    -- and the clock among all deliveries is the one among the older ones
    pub clock_back : IsClock types (all_events (added ++ ds)) e trace n → IsClock types (all_events ds) e trace n
    clock_back new = record {
      test = new.test;
      decides = All-from_members (λ (x : Event). IsTrue (new.test x) ↔ IsCounted types (all_events ds) e trace x) (all_events ds) decides;
      number_is = sym (count_by_older types new.test added ds causal fails) ∙ new.number_is;
    }
      where
        -- the test decides on all events
        decided : (x : Event) → Contains (all_events (added ++ ds)) x → IsTrue (new.test x) ↔ IsCounted types (all_events (added ++ ds)) e trace x
        decided x inside = All-contains (λ (y : Event). IsTrue (new.test y) ↔ IsCounted types (all_events (added ++ ds)) e trace y) (all_events (added ++ ds)) x new.decides inside

        -- an added event reaches no older one, so it fails
        fails : (x : Event) → Contains (all_events (added ++ ds)) x → count_on x.id.trace (all_events ds) < x.id.number → new.test x ≡ false
        fails x inside above = false_from_ne_true (new.test x) (λ passes.
            let reaches = reaches_back_all types added ds causal x e there ((decided x inside).0 passes).1 in
            let most = number_of_older x reaches.among in
            omega (arith, most, above))

        -- the test decides on the older events, which the same ones reach
        decides : (x : Event) → Contains (all_events ds) x → IsTrue (new.test x) ↔ IsCounted types (all_events ds) e trace x
        decides x inside =
            let its = decided x (Contains-grows added ds x inside) in (
              (λ passes. let is = its.0 passes in (is.0, reaches_back_all types added ds causal x e there is.1)),
              (λ is. its.1 (is.0, reaches_grows_all types added ds x e is.1)),
            )
