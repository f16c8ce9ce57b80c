-- The laws of calls as seven numbers. `RoundTrip` has the theorems.
pub mod Lists
pub mod Commands
pub mod Answers
pub mod RoundTrip
pub mod Examples
