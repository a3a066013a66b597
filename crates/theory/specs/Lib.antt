pub mod Integers
pub mod Groups
pub mod Arcs
pub mod Walks
pub mod Trails
pub mod Theorems
