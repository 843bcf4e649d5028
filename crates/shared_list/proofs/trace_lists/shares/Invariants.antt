use Rattle.std.proofs.Common.{◌≡◌, length, map, take, vec_capacity}
use Rattle.shared_list.specs.Shared.{unspared}
use Rattle.shared_list.proofs.trace_lists.shares.Given as goal

abbrev pub invariant-loop-list : goal.invariant-loop-list
invariant-loop-list l = record { shared : l.shared.items ≡ map unspared (take l.list-index l.lists); room : vec_capacity l.shared ≡ length l.lists }
