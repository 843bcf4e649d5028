-- The lemmas that the proofs of other crates cite.
pub use Rattle.poet_io.proofs.BytesSoFar.{TakesPrefix-append}
pub use Rattle.poet_io.proofs.GivenBack.{FileLife, closed_file, given_back, given_back_more, none_given_back, told_left}
pub use Rattle.poet_io.proofs.Writers.{cut_after, cut_more, ends_cut, writes_after, written_both}
