pub mod Starting
pub mod Repeating
pub mod Composing
pub mod Fitting
