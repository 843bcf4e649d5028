-- The lemmas that the proofs of other crates cite.
pub use Rattle.raw_reader.proofs.ClosedPrefixes.{ended_closed, known_stays_on, stands_closed}
pub use Rattle.raw_reader.proofs.ReaderSteps.{closed_stays, goes_on, is_open}
pub use Rattle.raw_reader.proofs.TextsOnce.{faulty_once, first_of_faulty, first_of_good, good_once, not_both}
