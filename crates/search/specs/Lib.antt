pub mod Labels
pub mod Chains
pub mod Searches
pub mod Sweeps
pub mod Rounds
pub mod Words
