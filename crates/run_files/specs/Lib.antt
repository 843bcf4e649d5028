pub mod Troubles
pub mod Files
pub mod Loading
pub mod Sources
