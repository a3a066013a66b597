pub mod Lists
pub mod Listings
pub mod Example
pub mod Writings
