pub mod Sizes
pub mod Tallies
pub mod Clusters
pub mod Levels
