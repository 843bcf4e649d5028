-- An event that names no other waits for its trace alone.
use Rattle.std.proofs.Common.{◌≡◌, List, inl, inr, sym, ◌∙◌, true, false}
use Rattle.std.specs.Prelude.{IsSome, ◌↔◌}
use Rattle.std.specs.Option.{is_some}
use Rattle.causal_base.specs.declared.event.Event.{Event}
use Rattle.causal_base.specs.declared.kind.Kind.TheVariants.{Unary, Send, Receive, Sync, Watch}
use Rattle.causal_base.specs.Event.{IsFit, IsOfKind, NamesAnother}
use Rattle.causal_base.specs.History.{IsReady}
use Rattle.causal_base.specs.Types.{TypeTable}

no_mate : (e : Event) → is_some e.mate ≡ false → IsSome e.mate → ⊥
no_mate e none some = let clash : true ≡ false = sym some ∙ none in cc

pub ready_alone : (types : TypeTable) (seen : List Event) (e : Event) → IsFit types e → is_some e.mate ≡ false → IsReady types seen e
ready_alone types seen e fit none =
    elim fit.kind as (λ k. IsOfKind types e k → (IsSome e.mate ↔ NamesAnother k) → IsReady types seen e) [
      | Unary ↦ λ is mate. inl is
      | Send ↦ λ is mate. inr (inl is)
      | Receive ↦ λ is mate. absurd (no_mate e none (mate.1 tt))
      | Sync ↦ λ is mate. absurd (no_mate e none (mate.1 tt))
      | Watch ↦ λ is mate. absurd (no_mate e none (mate.1 tt))
    ] fit.is_of_kind fit.mate
