-- Definitions that only private functions use.
pub mod BuilderState
pub mod CanonState
pub mod Prefix
pub mod Laid
pub mod Repeats
pub mod Spans
