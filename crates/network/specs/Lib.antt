pub mod Nets
pub mod Offices
pub mod Keeping
