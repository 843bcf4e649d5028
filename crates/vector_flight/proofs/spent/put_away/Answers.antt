-- What is kept is what was copied.
use Rattle.std.proofs.Common.{◌∙◌, inl, inr}
use Rattle.vector_flight.proofs.spent.put_away.Goals as goal

pub returns-then-is_send-clause-sends : goal.returns-then-is_send-clause-sends
returns-then-is_send-clause-sends c key other there = elim (c.keep.ensures key other there) [ inl before ↦ inl before | inr new ↦ inr (new.0, new.1 ∙ c.copy_from.ensures) ]
