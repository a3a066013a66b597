pub mod Tables
pub mod Lent
