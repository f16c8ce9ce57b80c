pub mod ByValue
pub mod Runs
pub mod Fit
