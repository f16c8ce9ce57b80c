pub mod Lists
pub mod Refusals
pub mod Capability
pub mod Range
pub mod Death
