use Rattle.std.proofs.Common.{◌≡◌, length}
use Rattle.order_tests.proofs.relations.rows_are_those_worked_out.Given as goal

-- each count has a ledger of its own
abbrev pub ghosts-are_related : goal.ghosts-are_related
ghosts-are_related g a = record { name = a.blank.name; parts = a.blank.parts }

abbrev pub ghosts-have_clocks : goal.ghosts-have_clocks
ghosts-have_clocks g a = record { name = a.blank.name; parts = a.blank.parts }

abbrev pub invariant-loop-id : goal.invariant-loop-id
invariant-loop-id g l = length l.stamps.lists ≡ 3
