pub mod Kept
pub mod Workload
