pub mod Poisoned
