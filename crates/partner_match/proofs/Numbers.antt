-- Who waits for the events of one trace, as the map from numbers to lists has it.
use Rattle.std.proofs.Common.{◌≡◌, ◌≢◌, ◌≤◌, ◌⊎◌, ◌↔◌, ℕ, zero, suc, length, arith, List, [], ◌∷◌, ◌++◌, cond, map, refl, sym, ◌∙◌, ap, subst, inl, inr, None, Some, true, false, Option}
use Rattle.std.specs.Prelude.{Contains}
use Rattle.std.specs.BTreeMap.{is_at}
use Rattle.std.specs.Cmp.{Equal-is}
use Rattle.std.specs.List.{insert}
use Rattle.std.specs.Map.{lookup}
use Rattle.std.specs.Option.{option_map, option_map_or}
use Rattle.std.specs.Ordering.{nat_cmp}
use Rattle.std.proofs.lemmas.Map.Lookups.{exact_unsigned}
use Rattle.std.proofs.lemmas.Map.Made.{lookup-map_values}
use Rattle.causal_base.proofs.CallerLemmas.{Contains-cons, Contains-nil, Contains-one, Contains-here, Contains-there}
use Rattle.partner_match.specs.Waiting.{waiting_under}

-- a number is looked up under itself alone
other_number : (a b : ℕ) → b ≢ a → is_at (nat_cmp a) b ≡ false
other_number a b ne = elim (is_at (nat_cmp a) b) as (λ t. is_at (nat_cmp a) b ≡ t → t ≡ false) [
  | true ↦ λ is. absurd (ne (sym (exact_unsigned a b ((Equal-is (nat_cmp a b)).0 is))))
  | false ↦ λ is. refl
] refl

module _ {V : Type 0} (traces : V → List ℕ) where
  -- those that wait alone, and those that wait with others
  abbrev pub waits_of : List (ℕ × ℕ) → List (ℕ × V) → List (ℕ × List ℕ)
  waits_of alone several = map (λ e. (e.0, e.1 ∷ [])) alone ++ map (λ e. (e.0, traces e.1)) several

  -- the traces that wait, by what the two maps have
  abbrev pub waiting_of : Option ℕ → Option V → List ℕ
  waiting_of (Some trace) several = trace ∷ []
  waiting_of None several = option_map_or traces several []

  -- a number is looked up among those that wait alone, and then among the others
  pub waiting_is : (alone : List (ℕ × ℕ)) (several : List (ℕ × V)) (number : ℕ)
      → waiting_under (waits_of alone several) number ≡ waiting_of (lookup (is_at (nat_cmp number)) alone) (lookup (is_at (nat_cmp number)) several)
  waiting_is [] several number =
      ap (λ o. option_map_or (λ ts. ts) o []) (lookup-map_values traces (is_at (nat_cmp number)) several) ∙ mapped (lookup (is_at (nat_cmp number)) several)
    where
      mapped : (o : Option V) → option_map_or (λ ts. ts) (option_map traces o) [] ≡ option_map_or traces o []
      mapped None = refl
      mapped (Some v) = refl
  waiting_is (e ∷ alone) several number =
      elim (is_at (nat_cmp number) e.0) as (λ found. option_map_or (λ ts. ts) (cond found (Some (e.1 ∷ [])) (lookup (is_at (nat_cmp number)) (waits_of alone several))) []
      ≡ waiting_of (cond found (Some e.1) (lookup (is_at (nat_cmp number)) alone)) (lookup (is_at (nat_cmp number)) several)) [
        | true ↦ refl
        | false ↦ waiting_is alone several number
      ]

  -- those that wait, where it is known what the two maps have
  pub waiting_as : (alone : List (ℕ × ℕ)) (several : List (ℕ × V)) (number : ℕ) (first : Option ℕ) (kept : Option V)
      → lookup (is_at (nat_cmp number)) alone ≡ first → lookup (is_at (nat_cmp number)) several ≡ kept
      → waiting_under (waits_of alone several) number ≡ waiting_of first kept
  waiting_as alone several number first kept is has =
      waiting_is alone several number ∙ (ap (λ o. waiting_of o (lookup (is_at (nat_cmp number)) several)) is ∙ ap (waiting_of first) has)

  -- those that wait for other numbers stay
  module _ (alone_before alone_after : List (ℕ × ℕ)) (several_before several_after : List (ℕ × V)) (number : ℕ) where
    pub others_stay : ((other : ℕ) → is_at (nat_cmp number) other ≡ false → lookup (is_at (nat_cmp other)) alone_after ≡ lookup (is_at (nat_cmp other)) alone_before)
        → ((other : ℕ) → is_at (nat_cmp number) other ≡ false → lookup (is_at (nat_cmp other)) several_after ≡ lookup (is_at (nat_cmp other)) several_before)
        → (other : ℕ) → other ≢ number → waiting_under (waits_of alone_after several_after) other ≡ waiting_under (waits_of alone_before several_before) other
    others_stay alone_kept several_kept other ne =
        waiting_as alone_after several_after other (lookup (is_at (nat_cmp other)) alone_before) (lookup (is_at (nat_cmp other)) several_before)
        (alone_kept other (other_number number other ne)) (several_kept other (other_number number other ne))
        ∙ sym (waiting_is alone_before several_before other)

-- one more waits, where it is known who waits before and after
pub one_more : (before after was is : List ℕ) (trace : ℕ) → before ≡ was → after ≡ is
    → ((other : ℕ) → Contains is other ↔ (Contains was other ⊎ (other ≡ trace)))
    → (other : ℕ) → Contains after other ↔ (Contains before other ⊎ (other ≡ trace))
one_more before after was is trace had has more other = (
  (λ inside. subst (λ ts. Contains ts other ⊎ (other ≡ trace)) (sym had) ((more other).0 (subst (λ ts. Contains ts other) has inside))),
  (λ either. subst (λ ts. Contains ts other) (sym has) ((more other).1 (subst (λ ts. Contains ts other ⊎ (other ≡ trace)) had either))),
)

-- a list of one trace has that one
pub only_one : (trace other : ℕ) → Contains (trace ∷ []) other ↔ (Contains [] other ⊎ (other ≡ trace))
only_one trace other = (
  (λ inside. inr (sym (Contains-one trace other inside))),
  (λ either. elim either [ inl none ↦ absurd (Contains-nil other none) | inr is ↦ subst (λ t. Contains (trace ∷ []) t) (sym is) (Contains-here trace []) ]),
)

-- a list with a trace put in has those that it had, and that one
pub put_in : (xs : List ℕ) (at trace other : ℕ) → at ≤ length xs → Contains (insert xs at trace) other ↔ (Contains xs other ⊎ (other ≡ trace))
put_in xs zero trace other within = (
  (λ inside. elim (Contains-cons trace xs other inside) [ inl is ↦ inr (sym is) | inr there ↦ inl there ]),
  (λ either. elim either [ inl there ↦ Contains-there trace xs other there | inr is ↦ subst (λ t. Contains (trace ∷ xs) t) (sym is) (Contains-here trace xs) ]),
)
put_in [] (suc at) trace other within = absurd (omega (arith, within))
put_in (x ∷ xs) (suc at) trace other within =
    let rest = put_in xs at trace other (omega (arith, within)) in (
      (λ inside. elim (Contains-cons x (insert xs at trace) other inside) [
        | inl is ↦ inl (subst (λ t. Contains (x ∷ xs) t) is (Contains-here x xs))
        | inr there ↦ elim (rest.0 there) [ inl old ↦ inl (Contains-there x xs other old) | inr is ↦ inr is ]
      ]),
      (λ either. elim either [
        | inl old ↦ elim (Contains-cons x xs other old) [
          | inl is ↦ subst (λ t. Contains (x ∷ insert xs at trace) t) is (Contains-here x (insert xs at trace))
          | inr there ↦ Contains-there x (insert xs at trace) other (rest.1 (inl there))
        ]
        | inr is ↦ Contains-there x (insert xs at trace) other (rest.1 (inr is))
      ]),
    )
