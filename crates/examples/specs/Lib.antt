pub mod Networks
pub mod Examples
