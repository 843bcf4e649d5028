use Rattle.std.proofs.Common.{◌≡◌, ◌≤◌, length}
use Rattle.std.specs.Prelude.{vec_capacity}
use Rattle.load_run.specs.declared.limits.TheConstants.{COLLECTORS}
use Rattle.load_run.proofs.Shares.{first_texts}
use Rattle.load_run.proofs.texts.sources_of.Given as goal

-- the first collectors have their sources, and there is room for all
abbrev pub invariant-loop-collector : goal.invariant-loop-collector
invariant-loop-collector l =
    (l.sources.items ≡ first_texts l.types l.events l.collector)
    × (length l.sources.items ≡ l.collector) × (COLLECTORS ≤ vec_capacity l.sources)
