pub mod Checker
pub mod Pointer
