-- What the reader and the writer of calls promise, stated apart from their code.
pub mod Bytes
pub mod Commands
pub mod Parts
pub mod Reader
pub mod Writer
pub mod Promises
