pub mod Calls
pub mod Entries
