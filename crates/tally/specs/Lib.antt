pub mod Tallies
pub mod Answers
pub mod Follows
pub mod Model
pub mod Laws
pub mod Runs
pub mod Texts
