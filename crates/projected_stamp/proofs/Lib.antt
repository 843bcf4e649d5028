mod Searches
mod Aboves
mod StampsOf
mod Links
mod Empties
mod Entries
mod Rooms
mod Runs
mod Projections
mod Moves
mod Additions
pub mod CallerLemmas
