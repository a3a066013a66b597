pub mod Entering
pub mod Taking
