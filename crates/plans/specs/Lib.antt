pub mod Plans
pub mod Residuals
pub mod Prices
pub mod Cuts
pub mod Theorems
pub mod Slices
