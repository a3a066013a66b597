pub mod Views
pub mod Running
