pub mod Draws
pub mod Counts
pub mod LastSends
pub mod Keeping
pub mod Steps
pub mod OwnIds
pub mod MadeEvents
pub mod Histories
