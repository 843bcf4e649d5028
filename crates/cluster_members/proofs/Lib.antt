pub mod ClusterLists
pub mod CallerLemmas
pub mod Moments
pub mod KeptLists
