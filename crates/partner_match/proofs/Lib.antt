pub mod Numbers
pub mod WaitLists
