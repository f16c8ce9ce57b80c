pub mod EdgesMet
pub mod WrongMachines
pub mod Shapes
pub mod WrongCosts
pub mod WrongMaps
