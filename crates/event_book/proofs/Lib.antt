mod Outcomes
mod AsStamped
mod Blocks
mod StampLists
mod Going
mod AtHand
mod Partners
mod Settling
mod Takings
mod Turns
mod Desks
mod Viewing
pub mod CallerLemmas
