pub mod Commanding
pub mod Running
