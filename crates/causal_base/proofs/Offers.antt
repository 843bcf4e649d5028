use Rattle.std.proofs.Common.{◌≡◌, ◌≢◌, ◌⊎◌, inl, inr, length, List, refl, ap, subst, Result, Err}
use Rattle.std.specs.Prelude.{Contains, ◌↔◌}
use Rattle.causal_base.specs.declared.entry.Entry.{Entry}
use Rattle.causal_base.specs.declared.event.Event.{Event}
use Rattle.causal_base.specs.declared.refusal.Refusal.{Refusal}
use Rattle.causal_base.specs.declared.refusal.Refusal.TheVariants.{Repeat, Clash, Full}
use Rattle.causal_base.specs.Types.{TypeTable}
use Rattle.causal_base.specs.Past.{came, HasEvent, IsLegalPast}
use Rattle.causal_base.proofs.Pasts.{same_came}

-- that a call answered this refusal
abbrev pub Answers : Refusal → Refusal → Type 0
Answers given refusal = ◌≡◌ {A = Result (Unit {0}) Refusal} (Err given) (Err refusal)

-- where an event of the id came
module _ (types : TypeTable) (past : List Entry) (legal : IsLegalPast types past) (event known : Event) (there : Contains (came past) known) (is : known.id ≡ event.id) (given : Refusal) (decided : ((given ≡ Repeat) × (known ≡ event)) ⊎ ((given ≡ Clash) × (known ≢ event))) where
  only_known : Contains (came past) event → known ≡ event
  only_known among = same_came types past legal known event there among is

  pub repeat_known : Answers given Repeat ↔ Contains (came past) event
  repeat_known = elim decided [
    | inl same ↦ ((λ _. subst (Contains (came past)) same.1 there), (λ _. ap (λ r. Err r) same.0))
    | inr other ↦ ((λ e. absurd cc), (λ among. absurd (other.1 (only_known among))))
  ]

  pub clash_known : Answers given Clash ↔ (HasEvent (came past) event.id × ¬ Contains (came past) event)
  clash_known = elim decided [
    | inl same ↦ ((λ e. absurd cc), (λ h. absurd (h.1 (subst (Contains (came past)) same.1 there))))
    | inr other ↦ ((λ _. ((known, there, is), λ among. other.1 (only_known among))), (λ _. ap (λ r. Err r) other.0))
  ]

  pub full_known : Answers given Full ↔ ((¬ HasEvent (came past) event.id) × (length (came past) ≡ 10_000))
  full_known = elim decided [
    | inl same ↦ ((λ e. absurd cc), (λ h. absurd (h.0 (known, there, is))))
    | inr other ↦ ((λ e. absurd cc), (λ h. absurd (h.0 (known, there, is))))
  ]

-- where none came
module _ (past : List Entry) (event : Event) (new : HasEvent (came past) event.id → ⊥) where
  pub clash_new : (answer : Result (Unit {0}) Refusal) → answer ≢ Err Clash → (answer ≡ Err Clash) ↔ (HasEvent (came past) event.id × ¬ Contains (came past) event)
  clash_new answer other = ((λ e. absurd (other e)), (λ h. absurd (new h.0)))

  pub full_new : length (came past) ≡ 10_000 → Answers Full Full ↔ ((¬ HasEvent (came past) event.id) × (length (came past) ≡ 10_000))
  full_new full = ((λ e. (new, full)), (λ h. refl))
