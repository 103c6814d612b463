pub mod Built
pub mod inner
