use Rattle.std.proofs.Common.{◌<◌, sym, subst}
use Rattle.event_book.specs.Desks.{DeskState}
use Rattle.event_book.proofs.Desks.{desk_ended}
use Rattle.event_book.proofs.desk.Desk.end.Goals as goal

pub invariant_of-self : goal.invariant_of-self
invariant_of-self c =
    desk_ended c.self.inside.setup.value c.self.inside.deliverer c.end.new.self c.self.inside.ended c.args.collector c.self.invariant c.self.told
    (subst (λ (v : DeskState). c.args.collector < v.setup.collectors) (sym c.self.view_is) c.requires.collector)
    c.end.ensures.types c.end.ensures.clustering c.end.ensures.journal
