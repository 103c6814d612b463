pub mod KeptKeys
pub mod StrictReader
pub mod inner
