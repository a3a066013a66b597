pub mod Parting
pub mod Deciding
pub mod Ruling
pub mod Ending
pub mod Running
pub mod Sizing
pub mod Exact
pub mod Legal
