pub mod Places
pub mod Marks
pub mod Store
pub mod Naming
pub mod Delivered
