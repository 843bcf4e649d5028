pub mod Lines
pub mod Runs
pub mod Printable
pub mod TextLines
