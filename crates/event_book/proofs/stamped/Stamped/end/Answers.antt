use Rattle.std.proofs.Common.{reverse, sym, subst}
use Rattle.causal_base.specs.Past.{HasEnded}
use Rattle.delivery.specs.Deliveries.{TypedJournal}
use Rattle.event_book.specs.Stamping.{IsStamped, StampedState}
use Rattle.event_book.proofs.Going.{stamped_ended}
use Rattle.event_book.proofs.stamped.Stamped.end.Goals as goal

pub invariant_of-self : goal.invariant_of-self
invariant_of-self c =
    let s : StampedState = record {
      types = c.self.inside.delivery.types;
      journal = c.self.inside.delivery.journal;
      levels = c.self.inside.levels;
      stamps = c.self.inside.stamps;
      full = c.self.inside.full;
    } in
    subst (λ (d : TypedJournal). IsStamped (record { types = d.types; journal = d.journal; levels = c.self.inside.levels; stamps = c.self.inside.stamps; full = c.self.inside.full })) (sym c.end.ensures)
    (stamped_ended s c.self.invariant c.args.collector (subst (λ (v : StampedState). HasEnded (reverse v.journal) c.args.collector → ⊥) (sym c.self.view_is) c.requires.open))
