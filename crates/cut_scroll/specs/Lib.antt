pub mod Cuts
pub mod Neighbours
pub mod Parts
