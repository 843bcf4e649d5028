-- Those that reach an event are the event itself, its partner, and those before it.
use Rattle.std.proofs.Common.{◌≡◌, ◌≢◌, ◌+◌, ℕ, Bool, true, false, inl, inr, List, [], ◌∷◌, cond, refl, sym, ◌∙◌, ap, subst, arith}
use Rattle.std.specs.Prelude.{Contains, ◌↔◌, ◌&&◌, IsTrue, count_by, not}
use Rattle.std.proofs.lemmas.Bool.{and_from, and_parts, and_right, false_from_ne_true, not_from_false, not_from_true}
use Rattle.causal_base.specs.declared.event.Event.{Event}
use Rattle.causal_base.specs.declared.kind.Kind.TheVariants.{Sync}
use Rattle.causal_base.specs.Event.{IsOfKind, Pairs}
use Rattle.causal_base.specs.Clocks.{HasCount}
use Rattle.causal_base.specs.Past.{is_same_id}
use Rattle.causal_base.specs.Types.{TypeTable}
use Rattle.causal_base.specs.Walks.{IsBefore, Reaches}
use Rattle.causal_base.proofs.CallerLemmas.{All-from_members, and_true, count_by-cons, count_by_agree, count_by_skip, Contains-cons, Contains-here, Contains-nil, Contains-there, IsNumbered, is_same_id-same, number_within, pairs_swapped, reaches_itself, same_event, same_from_is_same_id, same_name}
use Rattle.causal_laws.proofs.PairPasts.{partner_reaches}

-- it passes the test, and isn't e
abbrev pub passes_but : (Event → Bool) → Event → Event → Bool
passes_but test e x = test x && not (is_same_id x.id e.id)

-- another event has another id
other_id : (events : List Event) → IsNumbered events → (x e : Event) → Contains events x → Contains events e → x ≢ e → not (is_same_id x.id e.id) ≡ true
other_id events all_numbered x e in_x in_e other =
    not_from_false (is_same_id x.id e.id) (false_from_ne_true (is_same_id x.id e.id) (λ same. other (same_event events all_numbered x e in_x in_e (same_from_is_same_id x.id e.id same))))

-- an event that isn't e itself
other_event : (e x : Event) → not (is_same_id x.id e.id) ≡ true → x ≢ e
other_event e x other same =
    let own : is_same_id x.id e.id ≡ true = subst (λ (y : Event). is_same_id y.id e.id ≡ true) (sym same) (is_same_id-same e.id) in
    let clash : not (is_same_id x.id e.id) ≡ false = not_from_true (is_same_id x.id e.id) own in
    cc

-- another event passes as before
passes_as_before : (events : List Event) → IsNumbered events → (test : Event → Bool) (x e : Event) → Contains events x → Contains events e → x ≢ e → passes_but test e x ≡ test x
passes_as_before events all_numbered test x e in_x in_e other =
    ap (λ (b : Bool). test x && b) (other_id events all_numbered x e in_x in_e other) ∙ and_true (test x)

-- and e itself doesn't pass
itself_fails : (test : Event → Bool) (e : Event) → passes_but test e e ≡ false
itself_fails test e = and_right (test e) (not (is_same_id e.id e.id)) (not_from_true (is_same_id e.id e.id) (is_same_id-same e.id))

-- the newest of numbered events isn't among the older ones
newest_is_new : (x : Event) (events : List Event) → IsNumbered (x ∷ events) → Contains events x → ⊥
newest_is_new x events all_numbered inside = let most = (number_within events all_numbered.1 x inside).1 in omega (arith, most, all_numbered.0)

-- an event that passes is counted once
count_by-but : (test : Event → Bool) (events : List Event) → IsNumbered events → (e : Event) → Contains events e → test e ≡ true → count_by test events ≡ count_by (passes_but test e) events + 1
count_by-but test [] all_numbered e there passes = absurd (Contains-nil e there)
count_by-but test (x ∷ events) all_numbered e there passes = elim (Contains-cons x events e there) [
  | inl is ↦
      let first = count_by-cons test x events in
      let one : ◌≡◌ {A = ℕ} (cond (test x) 1 0) 1 = ap (λ (b : Bool). cond b 1 0) (subst (λ y. test y ≡ true) (sym is) passes) in
      let skipped = count_by_skip (passes_but test e) x events (subst (λ y. passes_but test e y ≡ false) (sym is) (itself_fails test e)) in
      let rest = count_by_agree (passes_but test e) test events (λ y inside. passes_as_before (x ∷ events) all_numbered test y e (Contains-there x events y inside) there
      (λ same. newest_is_new x events all_numbered (subst (Contains events) (same ∙ sym is) inside))) in
      omega (arith, first, one, skipped, rest)
  | inr inside ↦
      let other : x ≢ e = λ same. newest_is_new x events all_numbered (subst (Contains events) (sym same) inside) in
      let first = count_by-cons test x events in
      let second = count_by-cons (passes_but test e) x events in
      let same : ◌≡◌ {A = ℕ} (cond (passes_but test e x) 1 0) (cond (test x) 1 0) = ap (λ (b : Bool). cond b 1 0) (passes_as_before (x ∷ events) all_numbered test x e (Contains-here x events) there other) in
      let rest = count_by-but test events all_numbered.1 e inside passes in
      omega (arith, first, second, same, rest)
]

-- so many events are before e
abbrev pub HasSoManyBefore : TypeTable → List Event → Event → ℕ → Type 0
HasSoManyBefore types events e n = HasCount (λ x. IsBefore types events x e) events n

module _ (types : TypeTable) (events : List Event) (all_numbered : IsNumbered events) (e : Event) (there : Contains events e) (test : Event → Bool) (decides : (x : Event) → Contains events x → IsTrue (test x) ↔ Reaches types events x e) where
  -- e is one of those that reach it
  pub counts_itself : count_by test events ≡ count_by (passes_but test e) events + 1
  counts_itself = count_by-but test events all_numbered e there ((decides e there).1 (reaches_itself types events e there))

  -- the others are before it, where it has no partner
  pub before_alone : (IsOfKind types e Sync → ⊥) → HasSoManyBefore types events e (count_by (passes_but test e) events)
  before_alone no_sync = record {
    test = passes_but test e;
    decides = All-from_members (λ x. IsTrue (passes_but test e x) ↔ IsBefore types events x e) events (λ x inside. (
      (λ passes.
          let parts = and_parts (test x) (not (is_same_id x.id e.id)) passes in
          record { reaches = (decides x inside).0 parts.0; different = other_event e x parts.1; apart = λ pairs. no_sync pairs.second }),
      (λ before. and_from (test x) (not (is_same_id x.id e.id)) ((decides x inside).1 before.reaches) (other_id events all_numbered x e inside there before.different)),
    ));
    number_is = refl;
  }

  module _ (partner : Event) (in_partner : Contains events partner) (pairs : Pairs types e partner) where
    -- its partner is another of those
    pub counts_partner : count_by (passes_but test e) events ≡ count_by (passes_but (passes_but test e) partner) events + 1
    counts_partner =
        let other : partner ≢ e = λ same. pairs.traces (ap (λ (v : Event). v.id.trace) (sym same)) in
        let reaches = partner_reaches types events partner e in_partner there (pairs_swapped types e partner pairs) in
        count_by-but (passes_but test e) events all_numbered partner in_partner
        (passes_as_before events all_numbered test partner e in_partner there other ∙ (decides partner in_partner).1 reaches)

    -- it has no other partner
    only_partner : (x : Event) → Contains events x → Pairs types x e → x ≡ partner
    only_partner x inside other = same_event events all_numbered x partner inside in_partner (same_name e x partner other.back pairs.forth)

    -- and the others are before it
    pub before_paired : HasSoManyBefore types events e (count_by (passes_but (passes_but test e) partner) events)
    before_paired = record {
      test = passes_but (passes_but test e) partner;
      decides = All-from_members (λ x. IsTrue (passes_but (passes_but test e) partner x) ↔ IsBefore types events x e) events (λ x inside. (
        (λ passes.
            let parts = and_parts (passes_but test e x) (not (is_same_id x.id partner.id)) passes in
            let its = and_parts (test x) (not (is_same_id x.id e.id)) parts.0 in
            record {
              reaches = (decides x inside).0 its.0;
              different = other_event e x its.1;
              apart = λ other. other_event partner x parts.1 (only_partner x inside other);
            }),
        (λ before. and_from (passes_but test e x) (not (is_same_id x.id partner.id))
            (and_from (test x) (not (is_same_id x.id e.id)) ((decides x inside).1 before.reaches) (other_id events all_numbered x e inside there before.different))
            (other_id events all_numbered x partner inside in_partner
            (λ same. before.apart (subst (λ (v : Event). Pairs types v e) (sym same) (pairs_swapped types e partner pairs))))),
      ));
      number_is = refl;
    }
