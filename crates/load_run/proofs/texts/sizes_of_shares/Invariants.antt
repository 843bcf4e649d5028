use Rattle.std.proofs.Common.{◌≤◌}
use Rattle.std.specs.Prelude.{All}
use Rattle.load_run.proofs.texts.sizes_of_shares.Given as goal

-- nobody has more than the events so far
abbrev pub invariant-loop-event : goal.invariant-loop-event
invariant-loop-event l = All (λ size. size ≤ l.event-index) l.sizes
