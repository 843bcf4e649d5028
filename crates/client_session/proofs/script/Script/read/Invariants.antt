use Rattle.std.proofs.Common.{◌≡◌, ◌++◌, ◌≤◌, length}
use Rattle.std.specs.List.{AllByRecursion}
use Rattle.client_session.specs.declared.limits.TheConstants.{MOST_COMMANDS}
use Rattle.client_session.specs.Commands.{MayStand}
use Rattle.client_session.specs.Scripts.{text_of_commands}
use Rattle.client_session.proofs.script.Script.read.Given as goal

abbrev pub invariant-loop-types : goal.invariant-loop-types
invariant-loop-types l = record {
  whole : l.bytes ≡ text_of_commands l.commands.items ++ l.rest;
  few : length l.commands.items ≤ MOST_COMMANDS;
  may_stand : AllByRecursion (MayStand l.types l.closing) l.commands.items;
}

abbrev pub decreases-loop-types : goal.decreases-loop-types
decreases-loop-types l = length l.rest
