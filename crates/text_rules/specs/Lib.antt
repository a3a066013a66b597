pub mod Judging
pub mod Legal
pub mod Reading
pub mod Rows
pub mod Rules
pub mod Stated
