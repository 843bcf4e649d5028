-- The lemmas that the proofs of other crates cite.
pub use Rattle.event_book.proofs.Settling.{all_append, delivers_none, delivers_on, not_ended, settles_from, settles_on}
pub use Rattle.event_book.proofs.Takings.{counts_all, open_after, takes_more, takes_then}
