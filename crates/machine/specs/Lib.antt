-- The rules of document 01, in its order: the state, the reasons against a call, its effect, and one step.
pub mod State
pub mod Formed
pub mod Roles
pub mod Reasons
pub mod Effects
pub mod Step
pub mod Order
pub mod Cost
pub mod Undoing
pub mod Forgetting
pub mod Command
pub mod Demands
