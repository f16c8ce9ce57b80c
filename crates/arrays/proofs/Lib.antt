pub mod Lists
pub mod RoundTrip
pub mod Facts
pub mod Writing
pub mod Ruling
pub mod Starting
