use Rattle.std.proofs.Common.{List, [], ◌∷◌, ◌++◌, refl, sym, subst}
use Rattle.std.specs.Prelude.{Contains}
use Rattle.causal_base.specs.declared.event.Event.{Event}
use Rattle.causal_base.specs.Types.{TypeTable}
use Rattle.causal_base.specs.Walks.{Step, Walk, Reaches}

-- one more step is a longer walk
pub reaches_step : (types : TypeTable) (events : List Event) (x y end : Event) → Step types events x y → Reaches types events y end → Reaches types events x end
reaches_step types events x y end step reaches = record { among = step.from; through = y ∷ reaches.through; walk = (step, reaches.walk) }

-- a walk may be followed by another
walk_on : (types : TypeTable) (events : List Event) (through onward : List Event) (x y z : Event) → Walk types events x through y → Walk types events y onward z → Walk types events x (through ++ onward) z
walk_on types events [] onward x y z one other = subst (λ (v : Event). Walk types events v onward z) (sym one) other
walk_on types events (w ∷ through) onward x y z one other = (one.0, walk_on types events through onward w y z one.1 other)

pub reaches_on : (types : TypeTable) (events : List Event) (x y z : Event) → Reaches types events x y → Reaches types events y z → Reaches types events x z
reaches_on types events x y z one other = record {
  among = one.among;
  through = one.through ++ other.through;
  walk = walk_on types events one.through other.through x y z one.walk other.walk;
}

pub reaches_itself : (types : TypeTable) (events : List Event) (x : Event) → Contains events x → Reaches types events x x
reaches_itself types events x inside = record { among = inside; through = []; walk = refl }

pub step_reaches : (types : TypeTable) (events : List Event) (x y : Event) → Step types events x y → Reaches types events x y
step_reaches types events x y step = reaches_step types events x y y step (reaches_itself types events y step.to)

-- a walk stays one among more events
walk_among : (types : TypeTable) (few more : List Event) → ((x : Event) → Contains few x → Contains more x) → (through : List Event) (x y : Event) → Walk types few x through y → Walk types more x through y
walk_among types few more grows [] x y walk = walk
walk_among types few more grows (w ∷ through) x y walk =
    (record { from = grows x walk.0.from; to = grows w walk.0.to; cause = walk.0.cause }, walk_among types few more grows through w y walk.1)

pub reaches_among : (types : TypeTable) (few more : List Event) → ((x : Event) → Contains few x → Contains more x) → (x y : Event) → Reaches types few x y → Reaches types more x y
reaches_among types few more grows x y reaches = record {
  among = grows x reaches.among;
  through = reaches.through;
  walk = walk_among types few more grows reaches.through x y reaches.walk;
}
