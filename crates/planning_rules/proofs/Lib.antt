pub mod Lowering
pub mod Passing
