pub mod CallerLemmas
pub mod Sums
pub mod Journals
pub mod Passes
pub mod Keeping
pub mod Seating
