-- The lines of such a text are one, and what is behind them has no cause.
use Rattle.raw_reader.proofs.TextsOnce.{open_not_known}
use Rattle.raw_reader.proofs.law.open_text_has_no_fault.Goals as goal

pub returns : goal.returns
returns c types table bytes batches text lines error known = open_not_known types table bytes batches text lines error known
