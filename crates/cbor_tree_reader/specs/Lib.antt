pub mod Prefix
pub mod Size
pub mod TreeValues
pub mod inner
