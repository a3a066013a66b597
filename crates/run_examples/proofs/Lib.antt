pub mod Passing
pub mod Writing
pub mod Calling
pub mod Running
