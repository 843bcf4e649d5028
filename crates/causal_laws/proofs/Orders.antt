-- Events that reach each other are one or partners, and so two events are related in one way.
use Rattle.std.proofs.Common.{◌≡◌, ◌⊎◌, inl, inr, List, [], ◌∷◌, refl, sym, ◌∙◌, ap, subst, arith}
use Rattle.std.specs.Prelude.{Contains}
use Rattle.std.proofs.lemmas.Bool.{cases_lt}
use Rattle.causal_base.specs.declared.event.Event.{Event}
use Rattle.causal_base.specs.declared.related.Related.{Related}
use Rattle.causal_base.specs.declared.related.Related.TheVariants.{Before, After, Concurrent, Same, Partners}
use Rattle.causal_base.specs.Types.{TypeTable}
use Rattle.causal_base.specs.Event.{Pairs}
use Rattle.causal_base.specs.Walks.{Reaches, IsBefore, AreRelated}
use Rattle.causal_base.specs.History.{EventBlock, alone, together, events_of, all_events, MayFollow, IsCausal}
use Rattle.causal_base.proofs.CallerLemmas.{Contains-cons, Contains-one, Contains-nil, Contains-split, newest_is_new, reaches_back, reaches_on, reaches_itself, pairs_swapped}
use Rattle.causal_laws.proofs.Limits.{reach_limit}
use Rattle.causal_laws.proofs.PairPasts.{partner_reaches}

-- the events of one delivery are one, or partners
in_one_delivery : (types : TypeTable) (past : List EventBlock) (d : EventBlock) → MayFollow types past d → (a b : Event) → Contains (events_of d) a → Contains (events_of d) b → (a ≡ b) ⊎ Pairs types a b
in_one_delivery types past (alone e) follows a b in_a in_b = inl (sym (Contains-one e a in_a) ∙ Contains-one e b in_b)
in_one_delivery types past (together x y) follows a b in_a in_b = elim (Contains-cons y (x ∷ []) a in_a) [
  | inl a_is ↦ elim (Contains-cons y (x ∷ []) b in_b) [
    | inl b_is ↦ inl (sym a_is ∙ b_is)
    | inr rest ↦ inr (subst (λ (u : Event). Pairs types u b) a_is (subst (λ (u : Event). Pairs types y u) (Contains-one x b rest) (pairs_swapped types x y follows.2)))
  ]
  | inr rest_a ↦ elim (Contains-cons y (x ∷ []) b in_b) [
    | inl b_is ↦ inr (subst (λ (u : Event). Pairs types u b) (Contains-one x a rest_a) (subst (λ (u : Event). Pairs types x u) b_is follows.2))
    | inr rest_b ↦ inl (sym (Contains-one x a rest_a) ∙ Contains-one x b rest_b)
  ]
]

-- events that reach each other are one, or partners
pub one_or_partners : (types : TypeTable) (ds : List EventBlock) → IsCausal types ds → (a b : Event) → Contains (all_events ds) b → Reaches types (all_events ds) a b → Reaches types (all_events ds) b a → (a ≡ b) ⊎ Pairs types a b
one_or_partners types [] h a b in_b forth back = absurd (Contains-nil b in_b)
one_or_partners types (d ∷ ds) h a b in_b forth back = elim (Contains-split d ds b in_b) [
  | inr old_b ↦
      let earlier = reaches_back types d ds h a b old_b forth in
      one_or_partners types ds h.1 a b old_b earlier (reaches_back types d ds h b a earlier.among back)
  | inl new_b ↦ elim (Contains-split d ds a forth.among) [
    | inl new_a ↦ in_one_delivery types ds d h.0 a b new_a new_b
    | inr old_a ↦ absurd (newest_is_new types d ds h b b new_b (reaches_back types d ds h b a old_a back).among refl)
  ]
]

module _ (types : TypeTable) (ds : List EventBlock) (causal : IsCausal types ds) where
  -- one event reaches another, or it doesn't
  reaches_or_not : (a b : Event) → Contains (all_events ds) a → Contains (all_events ds) b → Reaches types (all_events ds) a b ⊎ (Reaches types (all_events ds) a b → ⊥)
  reaches_or_not a b in_a in_b =
      let limit = reach_limit types ds causal a.id.trace b in_b in
      elim (cases_lt limit.0 a.id.number) [
        | inl above ↦ inr (λ reaches. let most = limit.1.from a in_a refl reaches in omega (arith, above, most))
        | inr within ↦ inl (limit.1.to a in_a refl within)
      ]

  -- what an event is before doesn't reach it
  before_one_way : (a b : Event) → Contains (all_events ds) b → IsBefore types (all_events ds) a b → Reaches types (all_events ds) b a → ⊥
  before_one_way a b in_b before back = elim (one_or_partners types ds causal a b in_b before.reaches back)
      [ inl same ↦ before.different same | inr pairs ↦ before.apart pairs ]

  pub before_goes_on : (a b c : Event) → Contains (all_events ds) c → IsBefore types (all_events ds) a b → IsBefore types (all_events ds) b c → IsBefore types (all_events ds) a c
  before_goes_on a b c in_c one other = record {
    reaches = reaches_on types (all_events ds) a b c one.reaches other.reaches;
    different = λ same. before_one_way a b other.reaches.among one (subst (λ (v : Event). Reaches types (all_events ds) b v) (sym same) other.reaches);
    apart = λ pairs.
        let back = partner_reaches types (all_events ds) c a in_c one.reaches.among (pairs_swapped types a c pairs) in
        before_one_way a b other.reaches.among one (reaches_on types (all_events ds) b c a other.reaches back);
  }

  module _ (a b : Event) (in_a : Contains (all_events ds) a) (in_b : Contains (all_events ds) b) where
    itself : a ≡ b → Reaches types (all_events ds) a b
    itself same = subst (λ (v : Event). Reaches types (all_events ds) a v) same (reaches_itself types (all_events ds) a in_a)

    itself_back : a ≡ b → Reaches types (all_events ds) b a
    itself_back same = subst (λ (v : Event). Reaches types (all_events ds) b v) (sym same) (reaches_itself types (all_events ds) b in_b)

    forth : Pairs types a b → Reaches types (all_events ds) a b
    forth pairs = partner_reaches types (all_events ds) a b in_a in_b pairs

    back : Pairs types a b → Reaches types (all_events ds) b a
    back pairs = partner_reaches types (all_events ds) b a in_b in_a (pairs_swapped types a b pairs)

    -- one relation holds
    pub is_related : (related : Related) × AreRelated types (all_events ds) a b related
    is_related = elim (reaches_or_not a b in_a in_b) [
      | inl to ↦ elim (reaches_or_not b a in_b in_a) [
        | inl from ↦ elim (one_or_partners types ds causal a b in_b to from) [ inl same ↦ (Same, same) | inr pairs ↦ (Partners, pairs) ]
        | inr not_from ↦ (Before, record { reaches = to; different = λ same. not_from (itself_back same); apart = λ pairs. not_from (back pairs) })
      ]
      | inr not_to ↦ elim (reaches_or_not b a in_b in_a) [
        | inl from ↦ (After, record { reaches = from; different = λ same. not_to (itself (sym same)); apart = λ pairs. not_to (forth (pairs_swapped types b a pairs)) })
        | inr not_from ↦ (
          Concurrent,
          record {
            different = λ same. not_to (itself same);
            apart = λ pairs. not_to (forth pairs);
            not_before = λ before. not_to before.reaches;
            not_after = λ after. not_from after.reaches;
          },
        )
      ]
    ]

    -- and no other does
    pub related_in_one_way : (related other : Related) → AreRelated types (all_events ds) a b related → AreRelated types (all_events ds) a b other → related ≡ other
    related_in_one_way Before Before one also = refl
    related_in_one_way Before After one also = absurd (before_one_way a b in_b one also.reaches)
    related_in_one_way Before Concurrent one also = absurd (also.not_before one)
    related_in_one_way Before Same one also = absurd (one.different also)
    related_in_one_way Before Partners one also = absurd (one.apart also)
    related_in_one_way After Before one also = absurd (before_one_way a b in_b also one.reaches)
    related_in_one_way After After one also = refl
    related_in_one_way After Concurrent one also = absurd (also.not_after one)
    related_in_one_way After Same one also = absurd (one.different (sym also))
    related_in_one_way After Partners one also = absurd (one.apart (pairs_swapped types a b also))
    related_in_one_way Concurrent Before one also = absurd (one.not_before also)
    related_in_one_way Concurrent After one also = absurd (one.not_after also)
    related_in_one_way Concurrent Concurrent one also = refl
    related_in_one_way Concurrent Same one also = absurd (one.different also)
    related_in_one_way Concurrent Partners one also = absurd (one.apart also)
    related_in_one_way Same Before one also = absurd (also.different one)
    related_in_one_way Same After one also = absurd (also.different (sym one))
    related_in_one_way Same Concurrent one also = absurd (also.different one)
    related_in_one_way Same Same one also = refl
    related_in_one_way Same Partners one also = absurd (also.traces (ap (λ (v : Event). v.id.trace) one))
    related_in_one_way Partners Before one also = absurd (also.apart one)
    related_in_one_way Partners After one also = absurd (also.apart (pairs_swapped types a b one))
    related_in_one_way Partners Concurrent one also = absurd (also.apart one)
    related_in_one_way Partners Same one also = absurd (one.traces (ap (λ (v : Event). v.id.trace) also))
    related_in_one_way Partners Partners one also = refl
