-- What a caller keeps: a cut that it moves stays consistent.
use Rattle.std.proofs.Common.{◌≡◌, ℕ, List, [], ◌∷◌, refl, sym, subst}
use Rattle.causal_base.specs.declared.answer.Answer.{Answer}
use Rattle.causal_base.specs.declared.answer.Answer.TheVariants.{Known, NotYet}
use Rattle.causal_base.specs.declared.event.Event.{Event}
use Rattle.causal_base.specs.declared.event_id.EventId.{EventId}
use Rattle.causal_base.specs.Answers.{IsAnswer}
use Rattle.causal_base.specs.Types.{TypeTable}
use Rattle.cut_scroll.specs.Cuts.{IsConsistent, MovesFor}

-- a cut that moves for an event, to a consistent one, or stays where it isn't there, is consistent
pub consistent_after : (types : TypeTable) (events : List Event) (id : EventId) (before after : List ℕ) (Moves : Event → Type 0) → ((e : Event) → Moves e → IsConsistent types events after) → (answer : Answer (Unit {0})) → IsAnswer events (id ∷ []) (λ _. MovesFor events id Moves) answer → ((missing : EventId) → answer ≡ NotYet missing → after ≡ before) → IsConsistent types events before → IsConsistent types events after
consistent_after types events id before after Moves each (Known u) moved stays was = each moved.1.0 moved.1.3
consistent_after types events id before after Moves each (NotYet missing) moved stays was = subst (IsConsistent types events) (sym (stays missing refl)) was
