pub mod BuiltPrefix
pub mod Canonicalise
pub mod Comparing
pub mod Headline
pub mod Sequence
pub mod WholeItem
pub mod Written
pub mod inner
