pub mod Orders
pub mod Entries
pub mod Stores
pub mod Shares
