pub mod Splits
pub mod EventParts
pub mod Causes
pub mod Texts
pub mod ReaderState
pub mod CauseNames
