-- Definitions that only private functions use.
pub mod Machine
pub mod Saved
