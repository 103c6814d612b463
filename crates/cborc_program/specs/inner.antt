-- Definitions for private functions; no public contract uses them.
pub mod WordsEnd
