pub mod Grammar
pub mod Scan
