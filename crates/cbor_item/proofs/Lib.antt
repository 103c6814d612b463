pub mod Counting
mod Distinct
pub mod Held
mod Lookups
mod Rests
mod Sizes
pub mod Steps
mod TreeWalk
pub mod ValuesMade
mod ViewValues
pub mod Walk
