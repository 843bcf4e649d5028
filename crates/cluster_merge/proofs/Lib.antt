pub mod Reached
pub mod Joined
