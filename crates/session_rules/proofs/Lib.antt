-- Laws of sessions.
pub mod Sessions
