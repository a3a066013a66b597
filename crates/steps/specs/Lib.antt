pub mod Loads
pub mod Fees
pub mod Texts
