pub mod Calls
pub mod Rooms
pub mod Planning
pub mod Making
pub mod Stepping
pub mod Finishing
