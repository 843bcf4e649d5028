use Rattle.std.proofs.Common.{◌≡◌, length}
use Rattle.cluster_levels.specs.declared.limits.TheConstants.{MOST_LEVELS}
use Rattle.command_line.proofs.ListLemmas.{IsRead}
use Rattle.command_line.proofs.size_list.sizes_of.Given as goal

abbrev pub invariant-loop-level : goal.invariant-loop-level
invariant-loop-level l = record { room : length l.numbers ≡ MOST_LEVELS; is_read : IsRead l.text l.numbers l.level l.rest }
