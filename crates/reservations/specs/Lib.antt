pub mod Core
pub mod Revocation
pub mod Lent
