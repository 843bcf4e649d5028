mod Alone
pub mod Sets
pub mod Leaders
pub mod Prefixes
pub mod Looks
pub mod Going
pub mod Moves
pub mod Waits
pub mod Ends
