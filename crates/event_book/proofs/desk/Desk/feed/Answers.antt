use Rattle.std.proofs.Common.{◌<◌, List, reverse, sym, subst, Ok, Err}
use Rattle.std.specs.Prelude.{IfErr, OnOk}
use Rattle.causal_base.specs.declared.entry.Entry.{Entry}
use Rattle.causal_base.specs.declared.event.Event.{Event}
use Rattle.causal_base.specs.Past.{HasEnded}
use Rattle.event_book.specs.Desks.{DeskState, IsDesk}
use Rattle.event_book.specs.declared.feeding.Stop.{Stop}
use Rattle.event_book.specs.declared.feeding.Stop.TheVariants as stops
use Rattle.event_book.specs.Feeding.{IsFed, Takes, no_report}
use Rattle.event_book.specs.Stopping.{IsStoppedBy}
use Rattle.event_book.proofs.Desks.{desk_on, desk_takes}
use Rattle.event_book.proofs.desk.Desk.feed.Goals as goal

pub invariant_of-self : goal.invariant_of-self
invariant_of-self c =
    let setup = c.self.inside.setup.value in
    let old = c.self.inside.deliverer in
    let new = c.take_each-taken.new.deliverer in
    let report = c.take_each-taken.new.counting.report in
    let below = subst (λ (v : DeskState). c.args.collector < v.setup.collectors) (sym c.self.view_is) c.requires.collector in
    let took : (events : List Event) → Takes old.types c.args.collector events old.journal no_report new.journal report → IsDesk setup new c.self.inside.ended =
    λ events takes.
    let on = desk_takes setup old.types c.args.collector events old.journal no_report new.journal report below takes in
    desk_on setup old new c.self.inside.ended on.0 c.self.invariant c.take_each-taken.ensures.types c.take_each-taken.ensures.clustering on.1 on.2
    (λ collector has. on.3 collector (subst (λ (l : List Entry). HasEnded (reverse l) collector) (sym on.1) has)) in
    let stopped : (stop : Stop) → IsStoppedBy old.types c.args.collector c.args.batch old.journal new.journal report stop → IsDesk setup new c.self.inside.ended =
    λ stop. elim stop as (λ st. IsStoppedBy old.types c.args.collector c.args.batch old.journal new.journal report st → IsDesk setup new c.self.inside.ended) [
      | stops.Full id ↦ λ full. took full.taken full.fed.takes
      | stops.Oom ↦ λ short. took short.taken short.takes
    ] in
    elim c.take_each-taken.result as (λ r. OnOk r (IsFed old.types c.args.collector c.args.batch old.journal new.journal report) → IfErr r (λ stop. IsStoppedBy old.types c.args.collector c.args.batch old.journal new.journal report stop) → IsDesk setup new c.self.inside.ended) [
      | Ok t ↦ λ fed none. took c.args.batch fed.takes
      | Err stop ↦ λ none by. stopped stop by
    ] c.take_each-taken.ensures.ok c.take_each-taken.ensures.err
