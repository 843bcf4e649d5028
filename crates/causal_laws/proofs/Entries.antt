use Rattle.std.proofs.Common.{◌≡◌, ◌<◌, ◌≤◌, ◌+◌, ◌-◌, ℕ, suc, zero, ◌⊎◌, inl, inr, List, false, refl, sym, ◌∙◌, ap, subst, arith}
use Rattle.std.specs.Prelude.{Contains, ◌↔◌, IsTrue}
use Rattle.std.proofs.lemmas.Bool.{cases_lt}
use Rattle.causal_base.specs.declared.event.Event.{Event}
use Rattle.causal_base.specs.Types.{TypeTable}
use Rattle.causal_base.specs.Event.{Pairs}
use Rattle.causal_base.specs.Walks.{Step, Reaches}
use Rattle.causal_base.specs.Clocks.{IsClock}
use Rattle.causal_base.specs.History.{EventBlock, all_events, count_on, IsCausal}
use Rattle.causal_base.specs.Clusters.{Clustering}
use Rattle.causal_base.specs.Stamps.{level_of, is_member, IsLastAbove, IsEntry, IsGreatestOfEntries}
use Rattle.std.proofs.lemmas.List.Elements.{All-contains}
use Rattle.causal_base.proofs.CallerLemmas.{same_id, event_at, same_event, numbered, reaches_on, step_reaches, pairs_swapped, IsLimit, reaches_later, clock_from_limit, All-from_members}
use Rattle.causal_laws.proofs.Clocks.{counts_is_one}
use Rattle.causal_laws.proofs.Limits.{reach_limit}
use Rattle.causal_laws.proofs.Levels.{walk_enters}

module _ (types : TypeTable) (history : List EventBlock) (causal : IsCausal types history) where
  -- and a clock is that limit
  pub limit_from_clock : (e : Event) → Contains (all_events history) e → (trace n : ℕ) → IsClock types (all_events history) e trace n → IsLimit (all_events history) trace (λ x. Reaches types (all_events history) x e) n
  limit_from_clock e inside trace n clock =
      let its = reach_limit types history causal trace e inside in
      subst (λ m. IsLimit (all_events history) trace (λ x. Reaches types (all_events history) x e) m)
      (counts_is_one (λ x. (x.id.trace ≡ trace) × Reaches types (all_events history) x e) (all_events history) its.0 n (clock_from_limit types (all_events history) (numbered types history causal) e trace its.0 its.1) clock) its.1

  -- each event has a clock for each trace
  pub has_clock : (e : Event) → Contains (all_events history) e → (trace : ℕ) → (n : ℕ) × IsClock types (all_events history) e trace n
  has_clock e inside trace = let its = reach_limit types history causal trace e inside in (its.0, clock_from_limit types (all_events history) (numbered types history causal) e trace its.0 its.1)

module _ (types : TypeTable) (clustering : Clustering) (history : List EventBlock) (causal : IsCausal types history) (trace level number : ℕ) (most : number ≤ count_on trace (all_events history)) where
  -- no event with a greater level and a number up to the given one has a number above this one
  abbrev NoneAbove : ℕ → Type 0
  NoneAbove j = (x : Event) → Contains (all_events history) x → x.id.trace ≡ trace → x.id.number ≤ number → level < level_of clustering history x.id → x.id.number ≤ j

  -- going down from a number to that of an event with a greater level, the last such event is found
  last_from : (more : ℕ) (y : Event) → Contains (all_events history) y → y.id.trace ≡ trace → level < level_of clustering history y.id → more + y.id.number ≤ number → NoneAbove (more + y.id.number) → (r : Event) × IsLastAbove clustering history trace level number r × (y.id.number ≤ r.id.number)
  last_from zero y inside on above few none =
      (y, record { among = inside; on = on; most = omega (arith, few); above = above; last = λ x in_x on_x few_x above_x. let its = none x in_x on_x few_x above_x in omega (arith, its) }, omega arith)
  last_from (suc more) y inside on above few none =
      let z = event_at (all_events history) (numbered types history causal) trace (suc more + y.id.number) (omega arith) (omega (arith, few, most)) in
      elim (cases_lt level (level_of clustering history z.0.id)) [
        | inl higher ↦ (z.0, record { among = z.1; on = z.2; most = omega (arith, few, z.3); above = higher; last = λ x in_x on_x few_x above_x. let its = none x in_x on_x few_x above_x in omega (arith, its, z.3) }, omega (arith, z.3))
        | inr no_higher ↦ last_from more y inside on above (omega (arith, few)) (λ x in_x on_x few_x above_x. elim (cases_lt (more + y.id.number) x.id.number) [
          | inr below ↦ below
          | inl over ↦
              let its = none x in_x on_x few_x above_x in
              let number_too : x.id.number ≡ z.0.id.number = omega (arith, its, over, z.3) in
              let same = same_event (all_events history) (numbered types history causal) x z.0 in_x z.1 (same_id x.id z.0.id (on_x ∙ sym z.2) number_too) in
              let higher : level < level_of clustering history z.0.id = subst (λ (v : Event). level < level_of clustering history v.id) same above_x in
              absurd (omega (arith, higher, no_higher))
        ])
      ]

  pub last_above : (y : Event) → Contains (all_events history) y → y.id.trace ≡ trace → level < level_of clustering history y.id → y.id.number ≤ number → (r : Event) × IsLastAbove clustering history trace level number r × (y.id.number ≤ r.id.number)
  last_above y inside on above few =
      let most_y : (number - y.id.number) + y.id.number ≡ number = omega (arith, few) in
      last_from (number - y.id.number) y inside on above (omega (arith, most_y)) (λ x in_x on_x few_x above_x. omega (arith, few_x, most_y))

module _ (types : TypeTable) (clustering : Clustering) (history : List EventBlock) (causal : IsCausal types history) (e : Event) (inside : Contains (all_events history) e) (trace : ℕ) (outside : is_member clustering history e.id trace ≡ false) where
  -- the clock of an entry is at most that of the event
  entry_below : (n : ℕ) → IsClock types (all_events history) e trace n → (r : Event) (m : ℕ) → IsEntry types clustering history e r → IsClock types (all_events history) r trace m → m ≤ n
  entry_below n clock r m entry its = elim (cases_lt n m) [
    | inr below ↦ below
    | inl over ↦
        let of_r = limit_from_clock types history causal r entry.last.among trace m its in
        let of_e = limit_from_clock types history causal e inside trace n clock in
        let on_member = limit_from_clock types history causal e inside r.id.trace entry.number entry.clock in
        let onward = on_member.to r entry.last.among refl entry.last.most in
        let x = event_at (all_events history) (numbered types history causal) trace m (omega (arith, over)) of_r.most in
        let reaches = of_r.to x.0 x.1 x.2 (omega (arith, x.3)) in
        let below = of_e.from x.0 x.1 x.2 (reaches_on types (all_events history) x.0 r e reaches onward) in
        absurd (omega (arith, below, x.3, over))
  ]

  -- and one of them has it
  entry_meets : (n : ℕ) → IsClock types (all_events history) e trace n → (n ≡ 0) ⊎ ((r : Event) × IsEntry types clustering history e r × IsClock types (all_events history) r trace n)
  entry_meets n clock = elim (cases_lt 0 n) [
    | inr none ↦ inl (omega (arith, none))
    | inl some ↦
        let of_e = limit_from_clock types history causal e inside trace n clock in
        let x = event_at (all_events history) (numbered types history causal) trace n some of_e.most in
        let reaches = of_e.to x.0 x.1 x.2 (omega (arith, x.3)) in
        let not_member : is_member clustering history e.id x.0.id.trace ≡ false = subst (λ t. is_member clustering history e.id t ≡ false) (sym x.2) outside in
        let enters = walk_enters types clustering history causal reaches.through x.0 e inside reaches.walk not_member in
        let y = enters.at in
        let member_clock = has_clock types history causal e inside y.id.trace in
        let on_member = limit_from_clock types history causal e inside y.id.trace member_clock.0 member_clock.1 in
        let few = on_member.from y enters.among refl enters.before in
        let found = last_above types clustering history causal y.id.trace (level_of clustering history e.id) member_clock.0 on_member.most y enters.among refl enters.above few in
        let r = found.0 in
        let entry : IsEntry types clustering history e r = record {
          member = ap (is_member clustering history e.id) found.1.on ∙ enters.member;
          number = member_clock.0;
          clock = subst (λ t. IsClock types (all_events history) e t member_clock.0) (sym found.1.on) member_clock.1;
          last = subst (λ t. IsLastAbove clustering history t (level_of clustering history e.id) member_clock.0 r) (sym found.1.on) found.1;
        } in
        let r_clock = has_clock types history causal r found.1.among trace in
        let of_r = limit_from_clock types history causal r found.1.among trace r_clock.0 r_clock.1 in
        let later = reaches_later types (all_events history) (numbered types history causal) y r enters.among found.1.among (sym found.1.on) found.2 in
        let least = of_r.from x.0 x.1 x.2 (reaches_on types (all_events history) x.0 y r enters.after later) in
        let most = entry_below n clock r r_clock.0 entry r_clock.1 in
        let same : r_clock.0 ≡ n = omega (arith, least, most, x.3) in
        inr (r, entry, subst (λ m. IsClock types (all_events history) r trace m) same r_clock.1)
  ]

  pub greatest_from_clock : (n : ℕ) → IsClock types (all_events history) e trace n → IsGreatestOfEntries types clustering history e trace n
  greatest_from_clock n clock = record { each = entry_below n clock; one = entry_meets n clock }

  -- a greatest one is at most any other
  at_most : (m n : ℕ) → IsGreatestOfEntries types clustering history e trace m → IsGreatestOfEntries types clustering history e trace n → m ≤ n
  at_most m n its other = elim its.one [ inl none ↦ omega (arith, none) | inr some ↦ other.each some.0 m some.1 some.2 ]

  pub clock_from_greatest : (n : ℕ) → IsGreatestOfEntries types clustering history e trace n → IsClock types (all_events history) e trace n
  clock_from_greatest n greatest =
      let clock = has_clock types history causal e inside trace in
      let its = greatest_from_clock clock.0 clock.1 in
      let least = at_most clock.0 n its greatest in
      let most = at_most n clock.0 greatest its in
      let same : clock.0 ≡ n = omega (arith, least, most) in
      subst (λ m. IsClock types (all_events history) e trace m) same clock.1

-- partners are reached by the same events, so their clocks are equal
pub partner_clock : (types : TypeTable) (events : List Event) (a b : Event) → Contains events a → Contains events b → Pairs types a b → (trace n : ℕ) → IsClock types events a trace n → IsClock types events b trace n
partner_clock types events a b in_a in_b pairs trace n clock = record {
  test = clock.test;
  decides = All-from_members (λ (x : Event). IsTrue (clock.test x) ↔ ((x.id.trace ≡ trace) × Reaches types events x b)) events (λ x inside.
      let decided = All-contains (λ (y : Event). IsTrue (clock.test y) ↔ ((y.id.trace ≡ trace) × Reaches types events y a)) events x clock.decides inside in (
        (λ passes. let is = decided.0 passes in (is.0, reaches_on types events x a b is.1 (step_reaches types events a b forth))),
        (λ is. decided.1 (is.0, reaches_on types events x b a is.1 (step_reaches types events b a back))),
      ));
  number_is = clock.number_is;
}
  where
    forth : Step types events a b
    forth = record { from = in_a; to = in_b; cause = inr (inr pairs) }

    back : Step types events b a
    back = record { from = in_b; to = in_a; cause = inr (inr (pairs_swapped types a b pairs)) }
