use Rattle.std.proofs.Common.{List, [], ◌∷◌, ◌++◌, sym, subst}
use Rattle.std.specs.Prelude.{Contains}
use Rattle.causal_base.specs.declared.event.Event.{Event}
use Rattle.causal_base.specs.Types.{TypeTable}
use Rattle.causal_base.specs.Walks.{Walk, Reaches}
use Rattle.causal_base.specs.History.{EventBlock, all_events, IsCausal}
use Rattle.causal_base.proofs.CallerLemmas.{walk_back, reaches_back, reaches_grows}
use Rattle.causal_laws.proofs.Prefixes.{Contains-grows}

-- a walk to an event of the older deliveries goes through their events alone
pub walk_back_all : (types : TypeTable) (added ds : List EventBlock) → IsCausal types (added ++ ds) → (through : List Event) (u v : Event) → Contains (all_events ds) v → Walk types (all_events (added ++ ds)) u through v → Contains (all_events ds) u × Walk types (all_events ds) u through v
walk_back_all types [] ds h through u v there walk = begins_inside through u walk
  where
    -- a walk begins at one of the events that it lies among
    begins_inside : (through : List Event) (u : Event) → Walk types (all_events ds) u through v → Contains (all_events ds) u × Walk types (all_events ds) u through v
    begins_inside [] u walk = (subst (λ (x : Event). Contains (all_events ds) x) (sym walk) there, walk)
    begins_inside (x ∷ xs) u walk = (walk.0.from, walk)
walk_back_all types (d ∷ added) ds h through u v there walk =
    let one_less = walk_back types d (added ++ ds) h through u v (Contains-grows added ds v there) walk in
    walk_back_all types added ds h.1 through u v there one_less.1

-- an event of the older deliveries is reached by the same events as before
pub reaches_back_all : (types : TypeTable) (added ds : List EventBlock) → IsCausal types (added ++ ds) → (u v : Event) → Contains (all_events ds) v → Reaches types (all_events (added ++ ds)) u v → Reaches types (all_events ds) u v
reaches_back_all types [] ds h u v there reaches = reaches
reaches_back_all types (d ∷ added) ds h u v there reaches =
    reaches_back_all types added ds h.1 u v there (reaches_back types d (added ++ ds) h u v (Contains-grows added ds v there) reaches)

-- more deliveries leave what reaches an event
pub reaches_grows_all : (types : TypeTable) (added ds : List EventBlock) (u v : Event) → Reaches types (all_events ds) u v → Reaches types (all_events (added ++ ds)) u v
reaches_grows_all types [] ds u v reaches = reaches
reaches_grows_all types (d ∷ added) ds u v reaches = reaches_grows types d (added ++ ds) u v (reaches_grows_all types added ds u v reaches)

-- older deliveries of causal ones are causal
pub older_are_causal : (types : TypeTable) (added ds : List EventBlock) → IsCausal types (added ++ ds) → IsCausal types ds
older_are_causal types [] ds h = h
older_are_causal types (d ∷ added) ds h = older_are_causal types added ds h.1
