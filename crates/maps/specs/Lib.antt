pub mod Cells
pub mod Records
pub mod Questions
pub mod Walks
pub mod Promises
