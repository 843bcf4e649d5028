-- Who waits, as the maps of the traces have it.
use Rattle.std.proofs.Common.{◌≡◌, ◌≢◌, ◌<◌, ◌≤◌, ◌⊎◌, ◌↔◌, ℕ, zero, suc, length, arith, List, [], ◌∷◌, set, get_or, refl, sym, ◌∙◌, ap, subst, inl, inr, None, Some, Ok, Err, Option, Result}
use Rattle.std.specs.Prelude.{Contains, OnOk, option_and_then, slice_get, unwrap_or}
use Rattle.std.specs.BTreeMap.{is_at}
use Rattle.std.specs.Map.{lookup}
use Rattle.std.specs.Option.{option_map_or}
use Rattle.std.specs.Ordering.{nat_cmp}
use Rattle.std.proofs.lemmas.Bool.{cases_eq}
use Rattle.std.proofs.lemmas.List.{get_or-set_other, get_or-set_same}
use Rattle.std.proofs.lemmas.Option.{get_or_from_slice_get, slice_get-get_or, unwrap_or-slice_get}
use Rattle.causal_base.specs.declared.event_id.EventId.{EventId}
use Rattle.causal_base.proofs.CallerLemmas.{same_id}
use Rattle.partner_match.specs.Waiting.{Waits, waiting_for, waiting_under, WaitsToo}

-- who waits is told by the map of the trace
waiting_at : (waits : Waits) (id : EventId) → waiting_for waits id ≡ waiting_under (get_or waits id.trace []) id.number
waiting_at waits id = at (slice_get waits id.trace) ∙ ap (λ ns. waiting_under ns id.number) (unwrap_or-slice_get waits id.trace [])
  where
    at : (o : Option (List (ℕ × List ℕ))) → option_map_or (λ traces. traces) (option_and_then (λ values. lookup (is_at (nat_cmp id.number)) values) o) [] ≡ waiting_under (unwrap_or o []) id.number
    at None = refl
    at (Some numbers) = refl

-- where the trace has no map none waits
none_past : (waits : Waits) (id : EventId) → length waits ≤ id.trace → waiting_for waits id ≡ []
none_past waits id past = waiting_at waits id ∙ ap (λ ns. waiting_under ns id.number) (at waits id.trace past)
  where
    at : (lists : Waits) (trace : ℕ) → length lists ≤ trace → get_or lists trace [] ≡ []
    at [] trace h = refl
    at (ns ∷ lists) zero h = absurd (omega (arith, h))
    at (ns ∷ lists) (suc trace) h = at lists trace (omega (arith, h))

-- one trace more waits for an id, told by what waits for it before and after
too : (before after : Waits) (id : EventId) (trace : ℕ) (was is : List ℕ) → waiting_for before id ≡ was → waiting_for after id ≡ is
    → ((other : ℕ) → Contains is other ↔ (Contains was other ⊎ (other ≡ trace)))
    → ((other : EventId) → other ≢ id → waiting_for after other ≡ waiting_for before other)
    → WaitsToo before after id trace
too before after id trace was is had has more others = record {
  here = λ other.
      subst (λ now. Contains now other ↔ (Contains (waiting_for before id) other ⊎ (other ≡ trace))) (sym has)
      (subst (λ earlier. Contains is other ↔ (Contains earlier other ⊎ (other ≡ trace))) (sym had) (more other));
  elsewhere = others;
}

-- A trace waits for an event of a trace that has a map: that one becomes another.
module _ (waits : Waits) (id : EventId) (trace : ℕ) (old numbers : List (ℕ × List ℕ)) (inside : id.trace < length waits) (was : old ≡ get_or waits id.trace old) where
  abbrev after : Waits
  after = set waits id.trace numbers

  under_now : (number : ℕ) → waiting_under (get_or after id.trace []) number ≡ waiting_under numbers number
  under_now number = ap (λ ns. waiting_under ns number) (get_or-set_same waits id.trace numbers [] inside)

  under_before : (number : ℕ) → waiting_under (get_or waits id.trace []) number ≡ waiting_under old number
  under_before number = ap (λ ns. waiting_under ns number) (get_or_from_slice_get waits id.trace old [] (slice_get-get_or waits id.trace old inside ∙ ap Some (sym was)))

  module _ (kept : (number : ℕ) → number ≢ id.number → waiting_under numbers number ≡ waiting_under old number) where
    others_stay : (other : EventId) → other ≢ id → waiting_for after other ≡ waiting_for waits other
    others_stay other ne = waiting_at after other ∙ (elim (cases_eq other.trace id.trace) [
      | inr apart ↦ ap (λ ns. waiting_under ns other.number) (get_or-set_other waits id.trace other.trace numbers [] apart)
      | inl same ↦
          subst (λ t. waiting_under (get_or after t []) other.number ≡ waiting_under (get_or waits t []) other.number) (sym same)
          (under_now other.number ∙ (kept other.number (λ is. ne (same_id other id same is)) ∙ sym (under_before other.number)))
    ] ∙ sym (waiting_at waits other))

    pub changed_too : ((other : ℕ) → Contains (waiting_under numbers id.number) other ↔ (Contains (waiting_under old id.number) other ⊎ (other ≡ trace))) → WaitsToo waits after id trace
    changed_too more = too waits after id trace (waiting_under old id.number) (waiting_under numbers id.number)
        (waiting_at waits id ∙ under_before id.number) (waiting_at after id ∙ under_now id.number) more others_stay

-- Or of one that has none yet: it gets one.
pub new_too : (before after : Waits) (id : EventId) (trace : ℕ) (numbers : List (ℕ × List ℕ)) → length before ≤ id.trace
    → ((other : ℕ) → Contains (waiting_under numbers id.number) other ↔ (Contains [] other ⊎ (other ≡ trace)))
    → ((number : ℕ) → number ≢ id.number → waiting_under numbers number ≡ [])
    → ((other : EventId) → other.trace ≡ id.trace → waiting_for after other ≡ waiting_under numbers other.number)
    → ((other : EventId) → other.trace ≢ id.trace → waiting_for after other ≡ waiting_for before other)
    → WaitsToo before after id trace
new_too before after id trace numbers past more kept here elsewhere = too before after id trace [] (waiting_under numbers id.number)
    (none_past before id past) (here id refl) more (λ other ne. elim (cases_eq other.trace id.trace) [
      | inr apart ↦ elsewhere other apart
      | inl same ↦ here other same ∙ (kept other.number (λ is. ne (same_id other id same is)) ∙ sym (none_past before other (subst (λ t. length before ≤ t) (sym same) past)))
    ])

-- What two clauses say of a call that went well.
pub both_ok : {T E : Type 0} {P Q R : Type 0} (r : Result T E) → OnOk r P → OnOk r Q → (P → Q → R) → OnOk r R
both_ok (Ok value) p q f = f p q
both_ok (Err error) p q f = tt
