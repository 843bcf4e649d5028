-- The lemmas that the proofs of other crates cite.
pub use Rattle.run_files.proofs.FileEnds.{above_none, failed_ends, no_fault_ends, tells_of, whatever_left}
pub use Rattle.run_files.proofs.Openings.{are_open, back_first, back_more, none_back, open_first}
