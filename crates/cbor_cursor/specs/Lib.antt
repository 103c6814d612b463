pub mod Decoded
pub mod Index
pub mod Items
pub mod Opening
pub mod Offsets
pub mod WellFormed
pub mod inner
