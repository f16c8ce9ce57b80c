pub mod Sweep
pub mod Frames
