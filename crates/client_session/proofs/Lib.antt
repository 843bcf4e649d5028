pub mod Exits
pub mod WordLemmas
pub mod Forms
pub mod FormLemmas
pub mod ScriptLemmas
pub mod Replying
pub mod StampShown
