use Rattle.std.proofs.Common.{◌≡◌, ◌<◌, ℕ, true, false}
use Rattle.std.specs.Prelude.{slice_index_or}
use Rattle.event_book.proofs.desk.have_all_ended.Given as goal

-- those before it have
abbrev pub invariant-loop-collector : goal.invariant-loop-collector
invariant-loop-collector l = (k : ℕ) → k < l.collector → slice_index_or l.ended k false ≡ true
