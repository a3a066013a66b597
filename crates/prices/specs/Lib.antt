pub mod Priced
pub mod Queues
pub mod Checked
pub mod Claims
