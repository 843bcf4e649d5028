mod Unwritten
pub mod Gatherers
mod HandedOn
pub mod Each
pub mod CallerLemmas
