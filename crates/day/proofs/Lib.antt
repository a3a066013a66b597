pub mod Shown
pub mod Rooms
pub mod Memories
pub mod Running
