pub mod Sweeping
pub mod Sweeps
pub mod ByFrames
