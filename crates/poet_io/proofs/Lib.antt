pub mod BytesSoFar
pub mod Writers
pub mod StoredFiles
pub mod GivenBack
pub mod CallerLemmas
