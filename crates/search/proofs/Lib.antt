pub mod Optional
pub mod Sweeping
pub mod Rounding
pub mod Ending
pub mod Writing
pub mod Stepping
pub mod Chaining
pub mod Visiting
