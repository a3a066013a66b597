pub mod Settling
pub mod Checking
pub mod Confirming
