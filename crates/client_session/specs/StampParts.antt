-- The parts of a stamp as they are gathered, trace by trace.
use Rattle.std.specs.Prelude.{◌≡◌, ℕ, List, map, reverse, filter}
use Rattle.std.specs.List.{AllByRecursion}
use Rattle.causal_base.specs.declared.event_id.EventId.{EventId}
use Rattle.causal_base.specs.Clocks.{HasClock}
use Rattle.causal_base.specs.Clusters.{numbers_below}
use Rattle.causal_base.specs.Journal.{deliveries_by}
use Rattle.causal_base.specs.Stamps.{is_member}
use Rattle.client_session.specs.Replies.{Seen, delivered_in}

-- The parts are those of the stamp of a delivered event, of the members among the first traces.
pub record ArePartsBelow (seen : Seen) (id : EventId) (traces : ℕ) (parts : List (ℕ × ℕ)) : Type 0
  where
    pub members : map (λ part. part.0) parts
        ≡ filter (is_member seen.clustering (deliveries_by seen.journal) id)
        (reverse (numbers_below traces))
    pub clocks : AllByRecursion
        (λ part. HasClock seen.types (delivered_in seen) id part.0 part.1) parts
