pub mod Sums
pub mod Arcing
pub mod Best
pub mod Cutting
pub mod Listed
pub mod Pricing
pub mod Around
pub mod Lending
