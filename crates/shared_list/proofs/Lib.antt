mod Pieces
mod Spines
mod Openings
mod Places
mod Rooms
pub mod CallerLemmas
