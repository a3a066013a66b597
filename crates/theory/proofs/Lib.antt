pub mod Adding
pub mod Duality
pub mod Cuts
pub mod Pigeons
pub mod Walking
pub mod Relaxing
pub mod Pushing
pub mod Cycles
