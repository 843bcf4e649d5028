-- The clock of an event follows from those of the events right before it.
use Rattle.std.proofs.Common.{◌≡◌, ◌≢◌, ◌≤◌, ◌+◌, ℕ, max, ◌⊎◌, inl, inr, List, [], ◌∷◌, refl, sym, ◌∙◌, ap, subst, arith}
use Rattle.std.specs.Prelude.{Contains}
use Rattle.std.proofs.lemmas.Bool.{cases_lt}
use Rattle.causal_base.specs.declared.event.Event.{Event}
use Rattle.causal_base.specs.declared.kind.Kind.TheVariants.{Sync}
use Rattle.causal_base.specs.Types.{TypeTable}
use Rattle.causal_base.specs.Event.{IsOfKind, Fits}
use Rattle.causal_base.specs.Walks.{Succeeds, Reaches}
use Rattle.causal_base.specs.Clocks.{IsClock}
use Rattle.causal_base.specs.History.{EventBlock, alone, together, all_events, count_on, IsCausal}
use Rattle.causal_base.specs.Vectors.{IsClockBefore, IsClockFitted}
use Rattle.causal_base.proofs.CallerLemmas.{same_id, same_name, fits_no, Contains-cons, Contains-one, Contains-here, Contains-there, IsNumbered, number_within, same_event, count_on-same, count_on-other, numbered, ReachesSource, IsLimit, reaches_later, clock_from_limit}
use Rattle.causal_laws.proofs.Limits.{limit_of_new}
use Rattle.causal_laws.proofs.Entries.{limit_from_clock}

-- the last event of a trace has its number as its clock for it
own_clock : (types : TypeTable) (events : List Event) → IsNumbered events → (e : Event) → Contains events e → count_on e.id.trace events ≡ e.id.number → IsClock types events e e.id.trace e.id.number
own_clock types events numbers e there last = clock_from_limit types events numbers e e.id.trace e.id.number (record {
  most = omega (arith, last);
  to = λ x inside on few. reaches_later types events numbers x e inside there on few;
  from = λ x inside on reaches.
      let most = (number_within events numbers x inside).1 in
      let most_too : x.id.number ≤ count_on e.id.trace events = subst (λ t. x.id.number ≤ count_on t events) on most in
      omega (arith, most_too, last);
})

module _ (types : TypeTable) (past : List EventBlock) (causal : IsCausal types past) (trace : ℕ) where
  -- where nothing has the property the limit is 0
  none_within : (P : Event → Type 0) (n : ℕ) → n ≡ 0 → ((x : Event) → Contains (all_events past) x → P x → ⊥) → IsLimit (all_events past) trace P n
  none_within P n zero none = record {
    most = omega (arith, zero);
    to = λ x inside on few. let least = (number_within (all_events past) (numbered types past causal) x inside).0 in absurd (omega (arith, few, zero, least));
    from = λ x inside on is. absurd (none x inside is);
  }

  -- what reaches the event before one
  within_before : (e : Event) (n : ℕ) → IsClockBefore types (all_events past) e trace n → IsLimit (all_events past) trace (λ x. (z : Event) × Contains (all_events past) z × Reaches types (all_events past) x z × Succeeds z e) n
  within_before e n (inl first) = none_within _ n first.1 (λ x inside source.
      let least = (number_within (all_events past) (numbered types past causal) source.0 source.1).0 in
      let next = source.3.number in
      omega (arith, least, next, first.0))
  within_before e n (inr before) =
      let limit = limit_from_clock types past causal before.0 before.1 trace n before.3 in
      record {
        most = limit.most;
        to = λ x inside on few. (before.0, before.1, limit.to x inside on few, before.2);
        from = λ x inside on source.
            let number : source.0.id.number ≡ before.0.id.number = omega (arith, source.3.number, before.2.number) in
            let same = same_event (all_events past) (numbered types past causal) source.0 before.0 source.1 before.1 (same_id source.0.id before.0.id (sym source.3.trace ∙ before.2.trace) number) in
            limit.from x inside on (subst (λ (v : Event). Reaches types (all_events past) x v) same source.2);
      }

  -- what reaches the event that one fits
  within_fitted : (e : Event) (n : ℕ) → IsClockFitted types (all_events past) e trace n → IsLimit (all_events past) trace (λ x. (z : Event) × Contains (all_events past) z × Reaches types (all_events past) x z × Fits types e z) n
  within_fitted e n (inl none) = none_within _ n none.1 (λ x inside source. none.0 source.0 source.1 source.3)
  within_fitted e n (inr fitted) =
      let limit = limit_from_clock types past causal fitted.0 fitted.1 trace n fitted.3 in
      record {
        most = limit.most;
        to = λ x inside on few. (fitted.0, fitted.1, limit.to x inside on few, fitted.2);
        from = λ x inside on source.
            let same = same_event (all_events past) (numbered types past causal) source.0 fitted.0 source.1 fitted.1 (same_name e source.0 fitted.0 source.3.names fitted.2.names) in
            limit.from x inside on (subst (λ (v : Event). Reaches types (all_events past) x v) same source.2);
      }

  -- what has one of two properties
  within_either : (P Q R : Event → Type 0) (m n : ℕ) → ((x : Event) → (P x ⊎ Q x) → R x) → ((x : Event) → R x → P x ⊎ Q x) → IsLimit (all_events past) trace P m → IsLimit (all_events past) trace Q n → IsLimit (all_events past) trace R (max m n)
  within_either P Q R m n to_r of_r one other = record {
    most = let a = one.most in let b = other.most in omega (arith, a, b);
    to = λ x inside on few. elim (cases_lt m x.id.number) [
      | inr small ↦ to_r x (inl (one.to x inside on small))
      | inl large ↦ to_r x (inr (other.to x inside on (omega (arith, few, large))))
    ];
    from = λ x inside on is. elim (of_r x is) [
      | inl p ↦ (let most = one.from x inside on p in omega (arith, most))
      | inr q ↦ (let most = other.from x inside on q in omega (arith, most))
    ];
  }

  module _ (e : Event) (new : IsCausal types (alone e ∷ past)) where
    pub clock_alone : (m n : ℕ) → trace ≢ e.id.trace → IsClockBefore types (all_events past) e trace m → IsClockFitted types (all_events past) e trace n → IsClock types (all_events (alone e ∷ past)) e trace (max m n)
    clock_alone m n other before fitted =
        clock_from_limit types (all_events (alone e ∷ past)) (numbered types (alone e ∷ past) new) e trace (max m n)
        (limit_of_new types (alone e) past new trace e (Contains-here e []) (λ w inside on. other (sym on ∙ ap (λ (v : Event). v.id.trace) (sym (Contains-one e w inside)))) (max m n)
        (within_either _ _ _ m n
        (λ x either. elim either [ inl b ↦ (e, Contains-here e [], (b.0, b.1, b.2, inl b.3)) | inr f ↦ (e, Contains-here e [], (f.0, f.1, f.2, inr f.3)) ])
        (λ x is.
        let source = subst (λ (v : Event). ReachesSource types (all_events past) v x) (sym (Contains-one e is.0 is.1)) is.2 in
        elim source.3 [ inl succeeds ↦ inl (source.0, source.1, source.2, succeeds) | inr fits ↦ inr (source.0, source.1, source.2, fits) ])
        (within_before e m before) (within_fitted e n fitted)))

  module _ (a b : Event) (new : IsCausal types (together a b ∷ past)) where
    no_fit : (w : Event) → IsOfKind types w Sync → (z : Event) → Fits types w z → ⊥
    no_fit w sync z fits = fits_no types w z Sync fits sync (λ p. cc) (λ p. cc)

    pub clock_together : (m n : ℕ) → trace ≢ a.id.trace → trace ≢ b.id.trace → IsClockBefore types (all_events past) a trace m → IsClockBefore types (all_events past) b trace n → IsClock types (all_events (together a b ∷ past)) a trace (max m n)
    clock_together m n not_a not_b first second =
        clock_from_limit types (all_events (together a b ∷ past)) (numbered types (together a b ∷ past) new) a trace (max m n)
        (limit_of_new types (together a b) past new trace a (Contains-there b (a ∷ []) a (Contains-here a []))
        (λ w inside on. elim (Contains-cons b (a ∷ []) w inside) [
          | inl is ↦ not_b (sym on ∙ ap (λ (v : Event). v.id.trace) (sym is))
          | inr rest ↦ not_a (sym on ∙ ap (λ (v : Event). v.id.trace) (sym (Contains-one a w rest)))
        ]) (max m n)
        (within_either _ _ _ m n
        (λ x either. elim either [
          | inl f ↦ (a, Contains-there b (a ∷ []) a (Contains-here a []), (f.0, f.1, f.2, inl f.3))
          | inr s ↦ (b, Contains-here b (a ∷ []), (s.0, s.1, s.2, inl s.3))
        ])
        (λ x is. elim (Contains-cons b (a ∷ []) is.0 is.1) [
          | inl is_b ↦
              let source = subst (λ (v : Event). ReachesSource types (all_events past) v x) (sym is_b) is.2 in
              elim source.3 [ inl succeeds ↦ inr (source.0, source.1, source.2, succeeds) | inr fits ↦ absurd (no_fit b new.0.2.second source.0 fits) ]
          | inr rest ↦
              let source = subst (λ (v : Event). ReachesSource types (all_events past) v x) (sym (Contains-one a is.0 rest)) is.2 in
              elim source.3 [ inl succeeds ↦ inl (source.0, source.1, source.2, succeeds) | inr fits ↦ absurd (no_fit a new.0.2.first source.0 fits) ]
        ])
        (within_before a m first) (within_before b n second)))

-- an event that is delivered alone is the last of its trace
pub own_alone : (types : TypeTable) (past : List EventBlock) (e : Event) → IsCausal types (alone e ∷ past) → IsClock types (all_events (alone e ∷ past)) e e.id.trace e.id.number
own_alone types past e new =
    own_clock types (all_events (alone e ∷ past)) (numbered types (alone e ∷ past) new) e (Contains-here e (all_events past))
    (count_on-same e.id.trace e (all_events past) refl ∙ sym new.0.0)

-- and so are partners on theirs
module _ (types : TypeTable) (past : List EventBlock) (a b : Event) (new : IsCausal types (together a b ∷ past)) where
  pub own_first : IsClock types (all_events (together a b ∷ past)) a a.id.trace a.id.number
  own_first =
      own_clock types (all_events (together a b ∷ past)) (numbered types (together a b ∷ past) new) a (Contains-there b (a ∷ all_events past) a (Contains-here a (all_events past)))
      (count_on-other a.id.trace b (a ∷ all_events past) (λ same. new.0.2.traces (sym same)) ∙ count_on-same a.id.trace a (all_events past) refl ∙ sym new.0.0)

  pub own_second : IsClock types (all_events (together a b ∷ past)) b b.id.trace b.id.number
  own_second =
      own_clock types (all_events (together a b ∷ past)) (numbered types (together a b ∷ past) new) b (Contains-here b (a ∷ all_events past))
      (count_on-same b.id.trace b (a ∷ all_events past) refl ∙ (ap (λ n. n + 1) (count_on-other b.id.trace a (all_events past) new.0.2.traces) ∙ sym new.0.1))
