pub mod Lines
pub mod Rests
pub mod Memories
pub mod Days
