use Rattle.std.proofs.Common.{◌≡◌, inr, List, [], ◌∷◌, sym, subst}
use Rattle.std.specs.Prelude.{Contains}
use Rattle.causal_base.specs.declared.event.Event.{Event}
use Rattle.causal_base.specs.Types.{TypeTable}
use Rattle.causal_base.specs.Event.{Pairs}
use Rattle.causal_base.specs.Walks.{Walk, Reaches, IsBefore}
use Rattle.causal_base.proofs.CallerLemmas.{IsNumbered, same_event, same_name, reaches_on, step_reaches, pairs_swapped}

-- a walk ends at one of the events that it lies among
walk_ends : (types : TypeTable) (events : List Event) (through : List Event) (x e : Event) → Contains events x → Walk types events x through e → Contains events e
walk_ends types events [] x e inside walk = subst (Contains events) walk inside
walk_ends types events (y ∷ through) x e inside walk = walk_ends types events through y e walk.0.to walk.1

module _ (types : TypeTable) (events : List Event) where
  -- partners reach each other
  pub partner_reaches : (a b : Event) → Contains events a → Contains events b → Pairs types a b → Reaches types events a b
  partner_reaches a b in_a in_b pairs = step_reaches types events a b (record { from = in_a; to = in_b; cause = inr (inr pairs) })

  module _ (all_numbered : IsNumbered events) (a b : Event) (in_a : Contains events a) (in_b : Contains events b) (pairs : Pairs types a b) where
    -- what pairs with b is a
    only_partner : (x : Event) → Contains events x → Pairs types b x → x ≡ a
    only_partner x inside other = same_event events all_numbered x a inside in_a (same_name b x a other.forth pairs.back)

    pub before_partner : (x : Event) → IsBefore types events x a → IsBefore types events x b
    before_partner x before = record {
      reaches = reaches_on types events x a b before.reaches (partner_reaches a b in_a in_b pairs);
      different = λ is. before.apart (subst (λ (v : Event). Pairs types v a) (sym is) (pairs_swapped types a b pairs));
      apart = λ other. before.different (only_partner x before.reaches.among (pairs_swapped types x b other));
    }

    pub partner_before : (x : Event) → IsBefore types events a x → IsBefore types events b x
    partner_before x before = record {
      reaches = reaches_on types events b a x (partner_reaches b a in_b in_a (pairs_swapped types a b pairs)) before.reaches;
      different = λ is. before.apart (subst (Pairs types a) is pairs);
      apart = λ other. before.different (sym (only_partner x (walk_ends types events before.reaches.through a x in_a before.reaches.walk) other));
    }
