pub mod Standing
pub mod Entering
pub mod Determining
pub mod Marking
pub mod Parting
