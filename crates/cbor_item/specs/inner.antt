-- Definitions that only private functions use.
pub mod Containers
pub mod Levels
pub mod Rest
pub mod Texts
pub mod TreeWalk
pub mod ViewLevels
pub mod Walk
pub mod Within
