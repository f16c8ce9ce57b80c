-- A whole session: the lines of an input.
pub mod Session
