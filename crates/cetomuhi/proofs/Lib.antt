pub mod Writing
pub mod Fits
pub mod One
pub mod Ways
pub mod Laws
pub mod Putting
pub mod OwnRows
