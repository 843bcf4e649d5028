pub mod CallerLemmas
mod Exits
mod FileEnds
mod Openings
mod Scripts
