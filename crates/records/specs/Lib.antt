pub mod Cleared
pub mod Refusals
pub mod Words
