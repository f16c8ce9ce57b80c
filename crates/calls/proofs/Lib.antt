-- The laws of calls and their bytes. `RoundTrip` has the theorems that other crates cite.
pub mod Bytes
pub mod Cases
pub mod Listed
pub mod Table
pub mod Inputs
pub mod Buffers
pub mod RoundTrip
pub mod Examples
