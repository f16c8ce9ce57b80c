-- The documents' cases, and wrong programs that they tell from the rules. Nothing here is part of a rule.
pub mod Edges
pub mod Variants
pub mod WrongClaims
pub mod WrongMachines
pub mod CostCases
pub mod MapCases
pub mod WrongMaps
