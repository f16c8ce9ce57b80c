-- The definitions run on whole sessions.
mod Computed
