pub mod Revocation
pub mod Tested
pub mod Starting
