-- Laws of printed lines, for the functions' proofs and for the crates above.
pub mod Decimal
pub mod Laying
pub mod LaidExamples
