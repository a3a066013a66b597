pub mod Forms
pub mod Fronts
pub mod Scanning
