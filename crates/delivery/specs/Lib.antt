pub mod TraceSets
pub mod Leading
pub mod Deliveries
