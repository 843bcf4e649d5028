pub mod StampedJournal
pub mod Walking
pub mod Laws
pub mod Relations
