pub mod Words
pub mod WordReasons
pub mod Lent
