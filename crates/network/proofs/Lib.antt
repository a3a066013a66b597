pub mod Places
pub mod Faults
pub mod Reported
pub mod Totals
