use Rattle.std.proofs.Common.{◌≡◌, sym, ◌∙◌, arith}
use Rattle.std.specs.Prelude.{reverse}
use Rattle.causal_base.specs.Journal.{delivered_by, deliveries_by}
use Rattle.causal_base.proofs.CallerLemmas.{causal, delivered_numbered, same_event, same_id}
use Rattle.causal_laws.proofs.Entries.{limit_from_clock}
use Rattle.causal_laws.proofs.entry.entry_is_found.Goals as goal

pub returns-clause-reaches : goal.returns-clause-reaches
returns-clause-reaches c types clustering journal legal e there trace level n clock r last =
    (limit_from_clock types (deliveries_by journal) (causal types (reverse journal) legal) e there trace n clock).to r last.among last.on last.most

pub returns-clause-one : goal.returns-clause-one
returns-clause-one c types clustering journal legal trace level n r other one also =
    let up = also.last r one.among one.on one.most one.above in
    let down = one.last other also.among also.on also.most also.above in
    let number : r.id.number ≡ other.id.number = omega (arith, up, down) in
    same_event (delivered_by journal) (delivered_numbered types (reverse journal) legal) r other one.among also.among (same_id r.id other.id (one.on ∙ sym also.on) number)
