pub mod Commands
pub mod Scripts
pub mod Words
pub mod Replies
pub mod StampParts
pub mod CauseNames
