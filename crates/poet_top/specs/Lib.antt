pub mod Ask
pub mod Ending
pub mod Ends
pub mod FaultOutcome
pub mod Outcome
pub mod Replay
pub mod Taking
