-- The lemmas that the proofs of other crates cite.
pub use Rattle.projected_stamp.proofs.Additions.{parts-with_item}
