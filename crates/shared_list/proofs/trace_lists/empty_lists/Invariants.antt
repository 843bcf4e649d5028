use Rattle.std.proofs.Common.{◌≡◌, vec_capacity}
use Rattle.std.specs.Prelude.{replicate}
use Rattle.shared_list.specs.Shared.{no_items}
use Rattle.shared_list.proofs.trace_lists.empty_lists.Given as goal

abbrev pub invariant-loop : goal.invariant-loop
invariant-loop l = record { lists : l.lists.items ≡ replicate l.counter no_items; room : vec_capacity l.lists ≡ l.count }
