pub mod Kept
pub mod Moved
pub mod Raised
pub mod Mending
pub mod Balanced
pub mod Starting
