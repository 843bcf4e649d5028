-- The members of a stamp, and their parts.
use Rattle.std.proofs.Common.{◌≡◌, ◌≤◌, ◌<◌, ◌-◌, ℕ, zero, suc, List, [], ◌∷◌, length, cond, Bool, true, false, inl, inr, refl, sym, ◌∙◌, ap, subst, arith, Some, get_or, not}
use Rattle.std.specs.Prelude.{slice_get, slice_index, Contains, filter, reverse}
use Rattle.std.proofs.lemmas.Bool.{cases_lt}
use Rattle.std.specs.Option.{unwrap_or}
use Rattle.std.proofs.lemmas.Option.{slice_get-get_or, slice_get_within}
use Rattle.std.proofs.lemmas.List.{length-reverse, get_or-reverse}
use Rattle.std.proofs.lemmas.List.Filters.{length-filter_both}
use Rattle.causal_base.specs.declared.event.Event.{Event}
use Rattle.causal_base.specs.Types.{TypeTable}
use Rattle.causal_base.specs.Clocks.{IsClock}
use Rattle.causal_base.specs.Clusters.{numbers_below, levels_of, size_at}
use Rattle.causal_base.specs.History.{all_events}
use Rattle.causal_base.specs.Journal.{deliveries_by}
use Rattle.causal_base.specs.Stamps.{ClusterTimestamp, AreClocks, history_of, is_member, level_of}
use Rattle.causal_base.proofs.CallerLemmas.{Contains-cons, Contains-here, Contains-nil, Contains-there}
use Rattle.projected_stamp.specs.Parts.{IsPart}
use Rattle.precedence.specs.StampedJournal.{StampedJournal, IsStampIn}
use Rattle.precedence.specs.Laws.{HasLaws}
use Rattle.precedence.specs.Walking.{IsNumber}

-- what a filter keeps is what passes
Contains-filter : {A : Type 0} (test : A → Bool) (xs : List A) (x : A) → Contains xs x → test x ≡ true → Contains (filter test xs) x
Contains-filter test [] x there passes = absurd (Contains-nil x there)
Contains-filter {A} test (y ∷ ys) x there passes =
    elim (test y) as (λ b. test y ≡ b → Contains (cond b (y ∷ filter test ys) (filter test ys)) x) [
      | true ↦ λ first. elim (Contains-cons y ys x there) [
        | inl same ↦ subst (λ (z : A). Contains (y ∷ filter test ys) z) same (Contains-here y (filter test ys))
        | inr rest ↦ Contains-there y (filter test ys) x (Contains-filter test ys x rest passes)
      ]
      | false ↦ λ first. elim (Contains-cons y ys x there) [
        | inl same ↦ absurd (let clash : true ≡ false = sym passes ∙ ap test (sym same) ∙ first in cc)
        | inr rest ↦ Contains-filter test ys x rest passes
      ]
    ] refl

-- and what it keeps passes
passes_filter : {A : Type 0} (test : A → Bool) (xs : List A) (x : A) → Contains (filter test xs) x → test x ≡ true
passes_filter test [] x there = absurd (Contains-nil x there)
passes_filter {A} test (y ∷ ys) x there =
    elim (test y) as (λ b. test y ≡ b → Contains (cond b (y ∷ filter test ys) (filter test ys)) x → test x ≡ true) [
      | true ↦ λ first kept. elim (Contains-cons y (filter test ys) x kept) [
        | inl same ↦ ap test (sym same) ∙ first
        | inr rest ↦ passes_filter test ys x rest
      ]
      | false ↦ λ first kept. passes_filter test ys x kept
    ] refl there

length-numbers_below : (n : ℕ) → length (numbers_below n) ≡ n
length-numbers_below zero = refl
length-numbers_below (suc n) = let rest = length-numbers_below n in omega (arith, rest)

Contains-numbers_below : (n x : ℕ) → x < n → Contains (numbers_below n) x
Contains-numbers_below zero x below = absurd (omega (arith, below))
Contains-numbers_below (suc n) x below = elim (cases_lt x n) [
  | inl less ↦ Contains-there n (numbers_below n) x (Contains-numbers_below n x less)
  | inr last ↦ (let same : n ≡ x = omega (arith, last, below) in subst (λ k. Contains (n ∷ numbers_below n) k) same (Contains-here n (numbers_below n)))
]

Contains-reverse : {A : Type 0} (xs : List A) (x : A) → Contains xs x → Contains (reverse xs) x
Contains-reverse xs x there =
    let back = get_or-reverse xs (length xs - 1 - there.0) x (omega (arith, there.1)) in
    let same : length xs - 1 - (length xs - 1 - there.0) ≡ there.0 = omega (arith, there.1) in
    let count = length-reverse xs in (
      length xs - 1 - there.0,
      omega (arith, there.1, count),
      back ∙ ap (λ k. get_or xs k x) same ∙ there.2,
    )

-- each trace is listed
listed : (n x : ℕ) → x < n → Contains (reverse (numbers_below n)) x
listed n x below = Contains-reverse (numbers_below n) x (Contains-numbers_below n x below)

-- a filter that leaves out nothing
nothing_left_out : {A : Type 0} (test : A → Bool) (xs : List A) → length (filter test xs) ≡ length xs → (x : A) → Contains xs x → test x ≡ true
nothing_left_out {A} test xs same x there =
    elim (test x) as (λ b. test x ≡ b → test x ≡ true) [
      | true ↦ λ passes. passes
      | false ↦ λ fails.
          let both = length-filter_both test (λ y. not (test y)) (λ y. refl) xs in
          let other = Contains-filter (λ y. not (test y)) xs x there (ap not fails) in
          let some = other.1 in
          absurd (omega (arith, both, same, some))
    ] refl

-- the clocks of a stamp, at a place
clocks_at : (types : TypeTable) (events : List Event) (e : Event) (traces clock : List ℕ) → AreClocks types events e traces clock → (place trace n : ℕ) → slice_get traces place ≡ Some trace → slice_get clock place ≡ Some n → IsClock types events e trace n
clocks_at types events e [] [] are place trace n is number = absurd cc
clocks_at types events e [] (m ∷ clock) are place trace n is number = absurd are
clocks_at types events e (t ∷ traces) [] are place trace n is number = absurd are
clocks_at types events e (t ∷ traces) (m ∷ clock) are zero trace n is number =
    let same : t ≡ trace = cc in
    let also : m ≡ n = cc in
    subst (λ k. IsClock types events e k n) same (subst (λ k. IsClock types events e t k) also are.0)
clocks_at types events e (t ∷ traces) (m ∷ clock) are (suc place) trace n is number = clocks_at types events e traces clock are.1 place trace n is number

clocks_as_many : (types : TypeTable) (events : List Event) (e : Event) (traces clock : List ℕ) → AreClocks types events e traces clock → length clock ≡ length traces
clocks_as_many types events e [] [] are = refl
clocks_as_many types events e [] (m ∷ clock) are = absurd are
clocks_as_many types events e (t ∷ traces) [] are = absurd are
clocks_as_many types events e (t ∷ traces) (m ∷ clock) are = let rest = clocks_as_many types events e traces clock are.1 in omega (arith, rest)

module _ (w : StampedJournal) (laws : HasLaws w) (e : Event) (stamp : ClusterTimestamp) (is : IsStampIn w e stamp) where
  -- a part is the clock's number
  pub number_of_part : (trace n : ℕ) → IsPart stamp trace n → IsNumber w e trace n
  number_of_part trace n part =
      (laws.own_history e is.delivered trace n).0
      (clocks_at w.types (all_events (history_of e.id (deliveries_by w.journal))) e stamp.members stamp.clock is.clock part.at trace n part.member part.number_is)

  -- a member's place
  pub place_of_member : (trace : ℕ) → trace < w.types.traces → is_member w.clustering (deliveries_by w.journal) e.id trace ≡ true → Contains stamp.members trace
  place_of_member trace below member =
      let least = subst (λ k. trace < k) (sym w.traces) below in
      subst (λ (m : List ℕ). Contains m trace) (sym is.members)
      (Contains-filter (is_member w.clustering (deliveries_by w.journal) e.id) (reverse (numbers_below w.clustering.traces)) trace (listed w.clustering.traces trace least) member)

  -- what has a part is a member
  pub member_of_part : (trace n : ℕ) → IsPart stamp trace n → is_member w.clustering (deliveries_by w.journal) e.id trace ≡ true
  member_of_part trace n part =
      let within = slice_get_within stamp.members part.at trace part.member in
      let found = slice_get-get_or stamp.members part.at trace within in
      let there : Contains stamp.members trace = (part.at, within, ap (λ o. unwrap_or o trace) (sym found ∙ part.member)) in
      passes_filter (is_member w.clustering (deliveries_by w.journal) e.id) (reverse (numbers_below w.clustering.traces)) trace
      (subst (λ (m : List ℕ). Contains m trace) is.members there)

  -- there are as many parts as members
  pub as_many_parts : length stamp.clock ≡ length stamp.members
  as_many_parts = clocks_as_many w.types (all_events (history_of e.id (deliveries_by w.journal))) e stamp.members stamp.clock is.clock

  -- each member has a part
  pub part_of_member : (trace : ℕ) → Contains stamp.members trace → (n : ℕ) × IsPart stamp trace n
  part_of_member trace there =
      let count = as_many_parts in (
        slice_index stamp.clock there.0,
        record {
          at = there.0;
          member = slice_get-get_or stamp.members there.0 trace there.1 ∙ ap (λ k. Some k) there.2;
          number_is = slice_get-get_or stamp.clock there.0 0 (omega (arith, there.1, count));
        },
      )

  -- where there are as many members as traces, each trace is one
  pub all_are_members : length stamp.members ≡ w.types.traces → (trace : ℕ) → trace < w.types.traces → Contains stamp.members trace
  all_are_members all trace below =
      let least = subst (λ k. trace < k) (sym w.traces) below in
      let count = length-reverse (numbers_below w.clustering.traces) ∙ length-numbers_below w.clustering.traces ∙ w.traces in
      let same = ap length is.members in
      place_of_member trace below
      (nothing_left_out (is_member w.clustering (deliveries_by w.journal) e.id) (reverse (numbers_below w.clustering.traces)) (sym same ∙ all ∙ sym count) trace (listed w.clustering.traces trace least))

  -- above the levels with a size there are
  pub as_many_above : levels_of w.clustering < stamp.level → length stamp.members ≡ w.types.traces
  as_many_above high = ap length is.members ∙ laws.all_members e (subst (λ k. levels_of w.clustering < k) is.level high) ∙ w.traces

  -- at a level with a size there are no more than that
  pub few_by_size : stamp.level ≤ levels_of w.clustering → length stamp.members ≤ size_at w.clustering stamp.level
  few_by_size low =
      let least = laws.level_least e in
      let level = is.level in
      let some : 1 ≤ size_at w.clustering (level_of w.clustering (deliveries_by w.journal) e.id) = w.some (level_of w.clustering (deliveries_by w.journal) e.id - 1) (omega (arith, least, level, low)) in
      let few = laws.few_members e (omega (arith, level, low)) some in
      let count = ap length is.members in
      let size = ap (λ k. size_at w.clustering k) is.level in
      omega (arith, few, count, size)
