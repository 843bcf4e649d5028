use Rattle.raw_reader.specs.ReaderState.{ReaderState}
use Rattle.raw_reader.proofs.BatchesFit.{fit_taken}
use Rattle.raw_reader.proofs.BatchesTaken.{stands_after, ended_after}
use Rattle.raw_reader.proofs.reader.Reader.take_batch.Goals as goal
use Rattle.raw_reader.proofs.reader.Reader.take_batch.Goals.{After-pop_front}

-- the reader as it was
abbrev reader_of : After-pop_front → ReaderState
reader_of c = record {
  types = c.self.inside.types.now;
  size = c.self.inside.size;
  lines = c.self.inside.lines;
  tail = c.self.inside.line.items;
  begun = c.self.inside.begun.items;
  waiting = c.self.inside.waiting.items;
  refusal = c.self.inside.refusal;
}

pub returns-clause-stands : goal.returns-clause-stands
returns-clause-stands c = stands_after (reader_of c) c.args.self.now c.self.view_is c.pop_front.result c.pop_front.new.self.items c.pop_front.ensures.items

pub returns-clause-at_end : goal.returns-clause-at_end
returns-clause-at_end c = ended_after (reader_of c) c.args.self.now c.self.view_is c.pop_front.result c.pop_front.new.self.items c.pop_front.ensures.items

pub returns-clause-fit : goal.returns-clause-fit
returns-clause-fit c = fit_taken (reader_of c) c.args.self.now c.self.view_is c.pop_front.result c.pop_front.new.self.items c.pop_front.ensures.items
