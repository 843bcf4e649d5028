pub mod Reading
pub mod Bringing
pub mod Collecting
pub mod Tallies
pub mod Asking
pub mod Transcripts
pub mod Chains
