-- An event has one nearest event of a trace before it, and one after it.
use Rattle.std.proofs.Common.{◌≡◌, ◌≤◌, ℕ, List, refl, sym, ◌∙◌, ap, arith}
use Rattle.std.specs.Prelude.{Option, None, Some}
use Rattle.causal_base.specs.declared.event.Event.{Event}
use Rattle.causal_base.specs.declared.event_id.EventId.{EventId}
use Rattle.causal_base.specs.Types.{TypeTable}
use Rattle.causal_base.proofs.CallerLemmas.{same_id}
use Rattle.cut_scroll.specs.Neighbours.{IsOn, NamesGreatestBefore, NamesLeastAfter}

-- two events of a trace, each with no greater a number than the other, have one id
one_id : (events : List Event) (trace : ℕ) (x y : Event) (a b : EventId) → IsOn events trace x → IsOn events trace y → x.id.number ≤ y.id.number → y.id.number ≤ x.id.number → x.id ≡ a → y.id ≡ b → a ≡ b
one_id events trace x y a b on also least most is_a is_b =
    sym is_a ∙ (same_id x.id y.id (on.on ∙ sym also.on) (omega (arith, least, most)) ∙ is_b)

module _ (types : TypeTable) (events : List Event) (trace : ℕ) (e : Event) where
  pub greatest_once : (said other : Option EventId) → NamesGreatestBefore types events trace said e → NamesGreatestBefore types events trace other e → said ≡ other
  greatest_once None None is also = refl
  greatest_once None (Some b) is (y, its, is_b) = absurd (is y its.is_on its.before)
  greatest_once (Some a) None (x, its, is_a) also = absurd (also x its.is_on its.before)
  greatest_once (Some a) (Some b) (x, its, is_a) (y, others, is_b) =
      ap (λ (id : EventId). Some id) (one_id events trace x y a b its.is_on others.is_on (others.greatest x its.is_on its.before) (its.greatest y others.is_on others.before) is_a is_b)

  pub least_once : (said other : Option EventId) → NamesLeastAfter types events trace said e → NamesLeastAfter types events trace other e → said ≡ other
  least_once None None is also = refl
  least_once None (Some b) is (y, its, is_b) = absurd (is y its.is_on its.after)
  least_once (Some a) None (x, its, is_a) also = absurd (also x its.is_on its.after)
  least_once (Some a) (Some b) (x, its, is_a) (y, others, is_b) =
      ap (λ (id : EventId). Some id) (one_id events trace x y a b its.is_on others.is_on (its.least y others.is_on others.after) (others.least x its.is_on its.after) is_a is_b)
