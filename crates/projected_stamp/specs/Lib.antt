pub mod Parts
pub mod Runs
pub mod StampLists
pub mod Above
