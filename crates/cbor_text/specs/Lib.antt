pub mod Hidden
pub mod TextCheck
pub mod inner
