pub mod Answered
pub mod Passing
