pub mod Adding
pub mod Printing
pub mod Spelling
