-- The greatest event of a trace before an event, and the least after it: a partner is neither.
use Rattle.std.proofs.Common.{◌≡◌, ◌≢◌, ◌<◌, ◌≤◌, ◌⊎◌, ◌+◌, ℕ, inl, inr, List, sym, ◌∙◌, ap, subst, arith}
use Rattle.std.specs.Prelude.{Contains, Some}
use Rattle.std.proofs.lemmas.Bool.{cases_eq}
use Rattle.causal_base.specs.declared.event.Event.{Event}
use Rattle.causal_base.specs.declared.event_id.EventId.{EventId}
use Rattle.causal_base.specs.Event.{Pairs}
use Rattle.causal_base.specs.Types.{TypeTable}
use Rattle.causal_base.specs.Walks.{IsBefore, Reaches}
use Rattle.causal_base.proofs.CallerLemmas.{IsLimit, pairs_swapped, same_id}
use Rattle.cut_scroll.specs.Neighbours.{IsGreatestBefore, IsLeastAfter, IsOn}
use Rattle.cut_scroll.specs.Parts.{IsUnreached}

-- they are one event, or partners
abbrev pub AreOneThing : TypeTable → Event → Event → Type 0
AreOneThing types x y = (x ≡ y) ⊎ Pairs types x y

module _ (types : TypeTable) (events : List Event) (e : Event) where
  -- what is one thing with e is neither before nor after it
  not_before : (x : Event) → AreOneThing types e x → IsBefore types events x e → ⊥
  not_before x one before = elim one [ inl same ↦ before.different (sym same) | inr pairs ↦ before.apart (pairs_swapped types e x pairs) ]

  not_after : (x : Event) → AreOneThing types e x → IsBefore types events e x → ⊥
  not_after x one after = elim one [ inl same ↦ after.different same | inr pairs ↦ after.apart pairs ]

  -- one other event of a trace at most is one thing with e
  only_one : (x y : Event) → x.id.trace ≡ y.id.trace → x.id.number ≢ y.id.number → AreOneThing types e x → AreOneThing types e y → ⊥
  only_one x y trace number one other = elim one [
    | inl is_x ↦ elim other [
      | inl is_y ↦ number (ap (λ (v : Event). v.id.number) (sym is_x ∙ is_y))
      | inr pairs ↦ pairs.traces (ap (λ (v : Event). v.id.trace) is_x ∙ trace)
    ]
    | inr pairs ↦ elim other [
      | inl is_y ↦ pairs.traces (ap (λ (v : Event). v.id.trace) is_y ∙ sym trace)
      | inr also ↦ number (named_once (sym pairs.forth ∙ also.forth))
    ]
  ]
    where
      named_once : Some x.id ≡ Some y.id → x.id.number ≡ y.id.number
      named_once same = let ids : x.id ≡ y.id = cc in ap (λ (i : EventId). i.number) ids

  before_apart : (x : Event) → Reaches types events x e → (AreOneThing types e x → ⊥) → IsBefore types events x e
  before_apart x reaches other = record {
    reaches = reaches;
    different = λ same. other (inl (sym same));
    apart = λ pairs. other (inr (pairs_swapped types x e pairs));
  }

  after_apart : (x : Event) → Reaches types events e x → (AreOneThing types e x → ⊥) → IsBefore types events e x
  after_apart x reaches other = record { reaches = reaches; different = λ same. other (inl same); apart = λ pairs. other (inr pairs) }

  module _ (trace n : ℕ) (limit : IsLimit events trace (λ x. Reaches types events x e) n) where
    pub none_before : n ≡ 0 → ((x : Event) → Contains events x → 1 ≤ x.id.number) → (x : Event) → IsOn events trace x → IsBefore types events x e → ⊥
    none_before none least x is_on before =
        let most = limit.from x is_on.among is_on.on before.reaches in
        let some = least x is_on.among in
        omega (arith, most, some, none)

    module _ (last : Event) (among : Contains events last) (on : last.id.trace ≡ trace) (number : last.id.number ≡ n) where
      -- the last event that reaches e is before it, where they aren't one thing
      pub last_is_greatest : (AreOneThing types e last → ⊥) → IsGreatestBefore types events e trace last
      last_is_greatest other = record {
        is_on = record { among = among; on = on };
        before = before_apart last (limit.to last among on (omega (arith, number))) other;
        greatest = λ y is_on before. let most = limit.from y is_on.among is_on.on before.reaches in omega (arith, most, number);
      }

      -- else what is before e is before that
      earlier : ((x y : Event) → Contains events x → Contains events y → x.id ≡ y.id → x ≡ y) → AreOneThing types e last → (y : Event) → IsOn events trace y → IsBefore types events y e → y.id.number < n
      earlier own one y is_on before =
          let most = limit.from y is_on.among is_on.on before.reaches in
          elim (cases_eq y.id.number n) [
            | inr apart ↦ omega (arith, most, apart)
            | inl same ↦
                let is = own y last is_on.among among (same_id y.id last.id (is_on.on ∙ sym on) (same ∙ sym number)) in
                absurd (not_before last one (subst (λ (v : Event). IsBefore types events v e) is before))
          ]

      pub none_earlier : ((x y : Event) → Contains events x → Contains events y → x.id ≡ y.id → x ≡ y) → ((x : Event) → Contains events x → 1 ≤ x.id.number) → AreOneThing types e last → n ≡ 1 → (y : Event) → IsOn events trace y → IsBefore types events y e → ⊥
      none_earlier own least one first y is_on before =
          let most = earlier own one y is_on before in
          let some = least y is_on.among in
          omega (arith, most, some, first)

      pub next_is_greatest : ((x y : Event) → Contains events x → Contains events y → x.id ≡ y.id → x ≡ y) → AreOneThing types e last → (x : Event) → Contains events x → x.id.trace ≡ trace → x.id.number + 1 ≡ n → IsGreatestBefore types events e trace x
      next_is_greatest own one x in_x on_x below = record {
        is_on = record { among = in_x; on = on_x };
        before = before_apart x (limit.to x in_x on_x (omega (arith, below))) (only_one last x (on ∙ sym on_x) (omega (arith, number, below)) one);
        greatest = λ y is_on before. let most = earlier own one y is_on before in omega (arith, most, below);
      }

  module _ (trace count n : ℕ) (unreached : IsUnreached types events e trace count n) (most : (x : Event) → Contains events x → x.id.trace ≡ trace → x.id.number ≤ count) where
    reached_past : (x : Event) → IsOn events trace x → IsBefore types events e x → n < x.id.number
    reached_past x is_on after = (unreached.from x is_on.among is_on.on (most x is_on.among is_on.on)).0 after.reaches

    pub none_after : n ≡ count → (x : Event) → IsOn events trace x → IsBefore types events e x → ⊥
    none_after all x is_on after =
        let past = reached_past x is_on after in
        let within = most x is_on.among is_on.on in
        omega (arith, past, within, all)

    module _ (first : Event) (among : Contains events first) (on : first.id.trace ≡ trace) (number : first.id.number ≡ n + 1) where
      -- the first event that e reaches is after it, where they aren't one thing
      pub first_is_least : (AreOneThing types e first → ⊥) → IsLeastAfter types events e trace first
      first_is_least other = record {
        is_on = record { among = among; on = on };
        after = after_apart first ((unreached.from first among on (most first among on)).1 (omega (arith, number))) other;
        least = λ y is_on after. let past = reached_past y is_on after in omega (arith, past, number);
      }

      -- else what e is before is after that
      later : ((x y : Event) → Contains events x → Contains events y → x.id ≡ y.id → x ≡ y) → AreOneThing types e first → (y : Event) → IsOn events trace y → IsBefore types events e y → n + 1 < y.id.number
      later own one y is_on after =
          let past = reached_past y is_on after in
          elim (cases_eq y.id.number (n + 1)) [
            | inr apart ↦ omega (arith, past, apart)
            | inl same ↦
                let is = own y first is_on.among among (same_id y.id first.id (is_on.on ∙ sym on) (same ∙ sym number)) in
                absurd (not_after first one (subst (λ (v : Event). IsBefore types events e v) is after))
          ]

      pub none_later : ((x y : Event) → Contains events x → Contains events y → x.id ≡ y.id → x ≡ y) → AreOneThing types e first → n + 1 ≡ count → (y : Event) → IsOn events trace y → IsBefore types events e y → ⊥
      none_later own one all y is_on after =
          let past = later own one y is_on after in
          let within = most y is_on.among is_on.on in
          omega (arith, past, within, all)

      pub next_is_least : ((x y : Event) → Contains events x → Contains events y → x.id ≡ y.id → x ≡ y) → AreOneThing types e first → (x : Event) → Contains events x → x.id.trace ≡ trace → x.id.number ≡ n + 1 + 1 → IsLeastAfter types events e trace x
      next_is_least own one x in_x on_x above = record {
        is_on = record { among = in_x; on = on_x };
        after = after_apart x ((unreached.from x in_x on_x (most x in_x on_x)).1 (omega (arith, above))) (only_one first x (on ∙ sym on_x) (omega (arith, number, above)) one);
        least = λ y is_on after. let past = later own one y is_on after in omega (arith, past, above);
      }
