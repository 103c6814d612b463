pub mod Annotating
pub mod Lines
pub mod Listed
pub mod Slices
