use Rattle.std.proofs.Common.{◌∙◌, ap}
use Rattle.shared_list.specs.Traces.{lists_of, spares_of}
use Rattle.shared_list.proofs.Places.{lists_of-replicate}
use Rattle.shared_list.proofs.Rooms.{spares_of-replicate}
use Rattle.shared_list.proofs.trace_lists.TraceLists.new.Goals as goal

pub returns-clause-lists : goal.returns-clause-lists
returns-clause-lists g c = ap (lists_of c.new.result.items) c.in_ok-places.ensures ∙ lists_of-replicate c.new.result.items c.args.traces

pub returns-clause-spare : goal.returns-clause-spare
returns-clause-spare g c = ap (spares_of c.new.result.spare) c.in_ok-places.ensures ∙ spares_of-replicate c.new.result.spare c.new.ensures.spare c.args.traces
