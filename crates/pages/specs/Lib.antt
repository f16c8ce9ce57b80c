pub mod Pages
pub mod Entries
pub mod Layer
pub mod Mapping
pub mod Freed
pub mod Numbers
pub mod Sound
