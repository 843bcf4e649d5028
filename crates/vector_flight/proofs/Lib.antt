pub mod Kept
pub mod ClockRule
pub mod Keeping
pub mod Holding
