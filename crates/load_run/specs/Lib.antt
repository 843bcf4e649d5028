pub mod LoadTexts
pub mod Loads
