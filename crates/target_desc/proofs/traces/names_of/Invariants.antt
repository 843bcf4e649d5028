use Rattle.std.proofs.Common.{ℕ, ◌≡◌, ◌<◌, map, take, All}
use Rattle.causal_base.specs.Spelling.{IsName}
use Rattle.toml.specs.Data.{string}
use Rattle.toml.specs.View.{view}
use Rattle.target_desc.specs.Traces.{IsBadTrace}
use Rattle.target_desc.proofs.traces.names_of.Given as goal

abbrev pub invariant-loop-place : goal.invariant-loop-place
invariant-loop-place l = record {
  so_far : map string l.names.items ≡ map view (take l.place l.traces);
  are_names : All IsName l.names.items;
  none : (j : ℕ) → j < l.place → IsBadTrace (map view l.traces) j → ⊥;
}
