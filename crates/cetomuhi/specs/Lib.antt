pub mod Lent
pub mod Exports
pub mod Maps
