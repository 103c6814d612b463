-- Definitions for private functions; no public contract uses them.
pub mod Decided
pub mod Explained
pub mod Items
pub mod Listed
pub mod NotWritten
pub mod Parts
pub mod SequenceItems
pub mod Sources
pub mod Start
pub mod WholeInput
