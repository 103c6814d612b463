-- What private functions speak of; no public contract does.
pub mod Amid
