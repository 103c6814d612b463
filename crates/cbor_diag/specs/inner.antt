-- Definitions that only private functions use.
pub mod Layout
pub mod Levels
pub mod Outbox
pub mod Strings
pub mod TextSinks
pub mod Written
