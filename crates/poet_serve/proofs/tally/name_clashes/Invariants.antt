use Rattle.std.proofs.Common.{◌≡◌, ◌++◌, take, vec_capacity}
use Rattle.poet_serve.specs.declared.limits.TheConstants.{MOST_CLASHES_NAMED}
use Rattle.poet_serve.proofs.tally.name_clashes.Given as goal

-- the first ids of those before and of those that were passed
abbrev pub invariant-loop-id : goal.invariant-loop-id
invariant-loop-id l = record {
  items : l.first.items ≡ take MOST_CLASHES_NAMED (l.fn.first.items ++ take l.id-index l.clashes);
  room : vec_capacity l.first ≡ vec_capacity l.fn.first;
}
