use Rattle.std.proofs.Common.{◌≡◌, length, take, vec_capacity}
use Rattle.shared_list.proofs.piece.copies.Given as goal

abbrev pub invariant-loop-item : goal.invariant-loop-item
invariant-loop-item g l = record { items : l.copied.items ≡ take l.item-index l.items; room : vec_capacity l.copied ≡ length l.items }
