pub mod TallyLines
pub mod Counting
pub mod Joins
pub mod LabelLemmas
pub mod SizeLemmas
pub mod LevelLemmas
pub mod CallerLemmas
