pub mod Passing
pub mod RowEnds
pub mod Sofar
pub mod Steps
pub mod Tables
pub mod Whole
