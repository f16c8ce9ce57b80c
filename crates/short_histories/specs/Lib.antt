-- Document 02, 2026-10: every short history, once, as lines of text.
pub mod Listed
pub mod Text
pub mod Histories
pub mod Promises
pub mod Walk
pub mod Found
pub mod WrongTexts
