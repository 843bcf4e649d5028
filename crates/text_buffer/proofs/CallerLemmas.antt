-- The lemmas that the proofs of other crates cite.
pub use Rattle.text_buffer.proofs.Each.{all_come, all_have_come, each_comes, each_cut_behind, each_cut_short, each_has_come}
pub use Rattle.text_buffer.proofs.Gatherers.{Comes, IsCutBehind, comes_both, cut_after_come, cut_behind, cut_behind_more, ends_cut_behind, gathers_after, handed_on, has_come_after, has_come_as, none_comes, none_has_come, none_has_come_to}
