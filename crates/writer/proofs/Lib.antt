pub mod Spelling
pub mod Naming
pub mod Stating
