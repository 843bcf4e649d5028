use Rattle.std.proofs.Common.{◌-◌, ◌++◌, length, take}
use Rattle.std.specs.Prelude.{codes}
use Rattle.std.specs.List.{flat_map}
use Rattle.answer_text.specs.Texts.{text_of_entry}
use Rattle.text_buffer.proofs.CallerLemmas.{Comes}
use Rattle.run_text.proofs.run.put_entries.Given as goal

-- how far the entries have come
abbrev pub invariant-loop-entry : goal.invariant-loop-entry
invariant-loop-entry g l =
    let state = g.K.Sink.state in
    Comes (state l.fn.out) l.fn.buffer (state l.out) l.buffer (flat_map (λ entry. text_of_entry l.desk.setup.types entry ++ codes "\n") (take l.at l.desk.journal))

abbrev pub decreases-loop-entry : goal.decreases-loop-entry
decreases-loop-entry g l = length l.desk.journal - l.at
