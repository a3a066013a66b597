pub mod Places
pub mod Ways
pub mod Priced
pub mod Severed
pub mod Yarded
pub mod Standing
