use Rattle.std.proofs.Common.{◌≡◌, ◌≢◌, ◌<◌, ◌+◌, ℕ, suc, zero, List, [], ◌∷◌, ◌++◌, reverse, refl, sym, ◌∙◌, ap, subst, Option, Some, None, true, false, cond, arith, inl, inr, set}
use Rattle.std.specs.Prelude.{Contains, IfSome, IfNone, IsSome, slice_get, length}
use Rattle.std.specs.Borrow.{Bor}
use Rattle.std.specs.BTreeMap.{BTreeMap, get, Updates, is_at}
use Rattle.std.specs.Cmp.{Equal-is}
use Rattle.std.specs.Ordering.{nat_cmp}
use Rattle.std.specs.Prelude.{is_some, slice_index, slice_set}
use Rattle.std.proofs.lemmas.Bool.{cases_eq}
use Rattle.std.proofs.lemmas.List.{get_or-set_same, get_or-set_other}
use Rattle.std.proofs.lemmas.Map.Lookups.{CmpEqualImpliesEq, exact_pairs, exact_unsigned}
use Rattle.causal_base.specs.declared.entry.Entry.{Entry}
use Rattle.causal_base.specs.declared.entry.Entry.TheVariants.{Came, Gone, Pair}
use Rattle.causal_base.specs.declared.event.Event.{Event}
use Rattle.causal_base.specs.declared.event_id.EventId.{EventId}
use Rattle.causal_base.specs.History.{count_on}
use Rattle.causal_base.specs.Past.{came, delivered, event_of, HasEvent}
use Rattle.causal_base.specs.Index.{id_cmp, CameAt, IsIndexOf}
use Rattle.causal_base.proofs.Ids.{make_id, event_of-member}
use Rattle.causal_base.proofs.Journals.{came_from_place, delivered-gone, delivered-pair, reverse-push}
use Rattle.causal_base.proofs.Members.{Contains-cons}
use Rattle.causal_base.proofs.Numbered.{count_on-same, count_on-other}

module _ (journal : List Entry) (places : BTreeMap EventId ℕ) (counts : List ℕ) (accepted : ℕ) (index : IsIndexOf journal places counts accepted) where
  -- the event at the place of an id came, and has the id
  event_found : (id : EventId) (place collector : ℕ) (e : Event) → get id_cmp places id ≡ Some place → slice_get journal place ≡ Some (Came collector e) → Contains (came (reverse journal)) e × (e.id ≡ id)
  event_found id place collector e found is =
      let kept = index.sound id place found in
      let entries : Some (Came kept.0 kept.1) ≡ Some (Came collector e) = sym kept.2 ∙ is in
      let same : kept.1 ≡ e = cc in
      (came_from_place journal place collector e is, ap (λ (x : Event). x.id) (sym same) ∙ kept.3)

  pub found_some : (id : EventId) (place : ℕ) → get id_cmp places id ≡ Some place → (r : Option (Bor Event)) → IfSome r (λ e. (collector : ℕ) × (slice_get journal place ≡ Some (Came collector e.now))) → IfSome r (λ e. Contains (came (reverse journal)) e.now × (e.now.id ≡ id))
  found_some id place found None h = tt
  found_some id place found (Some e) h = event_found id place h.0 e.now found h.1

  pub found_none : (id : EventId) (place : ℕ) → get id_cmp places id ≡ Some place → (r : Option (Bor Event)) → IfNone r ((collector : ℕ) (e : Event) → slice_get journal place ≢ Some (Came collector e)) → IfNone r (HasEvent (came (reverse journal)) id → ⊥)
  found_none id place found None h = let kept = index.sound id place found in λ there. h kept.0 kept.1 kept.2
  found_none id place found (Some e) h = tt

  -- an id that has no place is no event's
  pub absent : (id : EventId) → get id_cmp places id ≡ None → HasEvent (came (reverse journal)) id → ⊥
  absent id none there =
      let has = subst (λ i. IsSome (get id_cmp places i)) there.2 (index.complete there.0 there.1) in
      let clash : false ≡ true = sym (ap (λ o. is_some o) none) ∙ has in
      absurd cc

-- ids that compare alike are one
exact_ids : CmpEqualImpliesEq id_cmp
exact_ids a b h = ap (λ (p : ℕ × ℕ). make_id p.0 p.1) (exact_pairs nat_cmp nat_cmp exact_unsigned exact_unsigned (a.trace, a.number) (b.trace, b.number) h)

pub same_from_is_at : (a b : EventId) → is_at (id_cmp a) b ≡ true → a ≡ b
same_from_is_at a b h = exact_ids a b ((Equal-is (id_cmp a b)).0 h)

slice_get_append : {A : Type 0} (xs ys : List A) (k : ℕ) (x : A) → slice_get xs k ≡ Some x → slice_get (xs ++ ys) k ≡ Some x
slice_get_append [] ys k x h = absurd cc
slice_get_append (z ∷ zs) ys zero x h = h
slice_get_append (z ∷ zs) ys (suc k) x h = slice_get_append zs ys k x h

slice_get_end : {A : Type 0} (xs : List A) (x : A) → slice_get (xs ++ x ∷ []) (length xs) ≡ Some x
slice_get_end [] x = refl
slice_get_end (z ∷ zs) x = slice_get_end zs x

CameAt-append : (journal more : List Entry) (place : ℕ) (id : EventId) → CameAt journal place id → CameAt (journal ++ more) place id
CameAt-append journal more place id at = (at.0, at.1, slice_get_append journal more place (Came at.0 at.1) at.2, at.3)

-- the index of an empty journal
pub IsIndexOf-nil : (places : BTreeMap EventId ℕ) (counts : List ℕ) → ((q : EventId) → get id_cmp places q ≡ None) → ((trace : ℕ) → trace < 256 → slice_index counts trace ≡ 0) → IsIndexOf [] places counts 0
IsIndexOf-nil places counts none zeros = record {
  sound = λ id place found. absurd (let clash : None ≡ Some place = sym (none id) ∙ found in cc);
  complete = λ e there. absurd (omega (arith, there.1));
  delivered_counts = λ trace below. zeros trace below;
  accepted_count = refl;
}

-- the counts after one more event of its trace
pub counts_next : (counts : List ℕ) (es : List Event) → length counts ≡ 256 → ((trace : ℕ) → trace < 256 → slice_index counts trace ≡ count_on trace es) → (id : EventId) (e : Event) → e.id ≡ id → id.trace < 256 → (trace : ℕ) → trace < 256 → slice_index (slice_set counts id.trace (slice_index counts id.trace + 1)) trace ≡ count_on trace (e ∷ es)
counts_next counts es size agree id e is below trace bound = elim (cases_eq trace id.trace) [
  | inl same ↦
      ap (λ t. slice_index (set counts id.trace (slice_index counts id.trace + 1)) t) same
      ∙ get_or-set_same counts id.trace (slice_index counts id.trace + 1) 0 (omega arith)
      ∙ ap (λ n. n + 1) (agree id.trace below)
      ∙ sym (count_on-same id.trace e es (ap (λ (i : EventId). i.trace) is))
      ∙ ap (λ t. count_on t (e ∷ es)) (sym same)
  | inr other ↦
      get_or-set_other counts id.trace trace (slice_index counts id.trace + 1) 0 other
      ∙ agree trace bound
      ∙ sym (count_on-other trace e es (λ same. other (sym same ∙ ap (λ (i : EventId). i.trace) is)))
]

module _ (journal : List Entry) (places : BTreeMap EventId ℕ) (counts : List ℕ) (accepted : ℕ) (index : IsIndexOf journal places counts accepted) where
  -- the index after an event came
  pub IsIndexOf-came : (later : BTreeMap EventId ℕ) (e : Event) → Updates id_cmp places later e.id (Some (length journal)) → IsIndexOf (journal ++ Came 0 e ∷ []) later counts (accepted + 1)
  IsIndexOf-came later e updates = record {
    sound = λ id place found.
        elim (is_at (id_cmp e.id) id) as (λ b. is_at (id_cmp e.id) id ≡ b → CameAt (journal ++ Came 0 e ∷ []) place id) [
          | true ↦ λ at.
              let here : get id_cmp later id ≡ Some (length journal) = updates.0 id ∙ ap (λ b. cond b (Some (length journal)) (get id_cmp places id)) at in
              let end : Some place ≡ Some (length journal) = sym found ∙ here in
              let is : length journal ≡ place = cc in
              (0, e, subst (λ k. slice_get (journal ++ Came 0 e ∷ []) k ≡ Some (Came 0 e)) is (slice_get_end journal (Came 0 e)), same_from_is_at e.id id at)
          | false ↦ λ apart. CameAt-append journal (Came 0 e ∷ []) place id (index.sound id place (sym (updates.2 id apart) ∙ found))
        ] refl;
    complete = λ x there.
        elim (Contains-cons e (came (reverse journal)) x (subst (λ past. Contains (came past) x) (reverse-push journal (Came 0 e)) there)) [
          | inl is ↦ subst (λ (y : Event). IsSome (get id_cmp later y.id)) is (ap (λ o. is_some o) updates.1)
          | inr before ↦
              elim (is_at (id_cmp e.id) x.id) as (λ b. is_at (id_cmp e.id) x.id ≡ b → IsSome (get id_cmp later x.id)) [
                | true ↦ λ at. ap (λ o. is_some o) (updates.0 x.id ∙ ap (λ b. cond b (Some (length journal)) (get id_cmp places x.id)) at)
                | false ↦ λ apart. ap (λ o. is_some o) (updates.2 x.id apart) ∙ index.complete x before
              ] refl
        ];
    delivered_counts = λ trace below. index.delivered_counts trace below ∙ ap (λ past. count_on trace (delivered past)) (sym (reverse-push journal (Came 0 e)));
    accepted_count = (ap (λ n. n + 1) index.accepted_count ∙ omega arith) ∙ ap (λ past. length (came past)) (sym (reverse-push journal (Came 0 e)));
  }

  -- the index after an event was delivered
  pub IsIndexOf-gone : (id : EventId) (e : Event) → event_of (came (reverse journal)) id ≡ Some e → id.trace < 256 → length counts ≡ 256 → IsIndexOf (journal ++ Gone id ∷ []) places (slice_set counts id.trace (slice_index counts id.trace + 1)) accepted
  IsIndexOf-gone id e found below size = record {
    sound = λ other place at. CameAt-append journal (Gone id ∷ []) place other (index.sound other place at);
    complete = λ x there. index.complete x (subst (λ past. Contains (came past) x) (reverse-push journal (Gone id)) there);
    delivered_counts = λ trace bound.
        counts_next counts (delivered (reverse journal)) size index.delivered_counts id e (event_of-member (came (reverse journal)) id e found).1 below trace bound
        ∙ ap (count_on trace) (sym (delivered-gone journal id e found));
    accepted_count = index.accepted_count ∙ ap (λ past. length (came past)) (sym (reverse-push journal (Gone id)));
  }

  -- the index after two partners were delivered
  pub IsIndexOf-pair : (a b : EventId) (x y : Event) → event_of (came (reverse journal)) a ≡ Some x → event_of (came (reverse journal)) b ≡ Some y → a.trace < 256 → b.trace < 256 → length counts ≡ 256
      → (between : List ℕ) → between ≡ slice_set counts a.trace (slice_index counts a.trace + 1) → length between ≡ 256
      → IsIndexOf (journal ++ Pair a b ∷ []) places (slice_set between b.trace (slice_index between b.trace + 1)) accepted
  IsIndexOf-pair a b x y found_a found_b below_a below_b size between is size_too = record {
    sound = λ other place at. CameAt-append journal (Pair a b ∷ []) place other (index.sound other place at);
    complete = λ e there. index.complete e (subst (λ past. Contains (came past) e) (reverse-push journal (Pair a b)) there);
    delivered_counts = λ trace bound.
        counts_next between (x ∷ delivered (reverse journal)) size_too
        (λ t within. ap (λ cs. slice_index cs t) is ∙ counts_next counts (delivered (reverse journal)) size index.delivered_counts a x (event_of-member (came (reverse journal)) a x found_a).1 below_a t within)
        b y (event_of-member (came (reverse journal)) b y found_b).1 below_b trace bound
        ∙ ap (count_on trace) (sym (delivered-pair journal a b x y found_a found_b));
    accepted_count = index.accepted_count ∙ ap (λ past. length (came past)) (sym (reverse-push journal (Pair a b)));
  }
