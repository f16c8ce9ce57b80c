pub mod Claims
pub mod Tree
pub mod Operations
pub mod Sound
pub mod Numbers
pub mod Cost
pub mod Lent
pub mod Promises
