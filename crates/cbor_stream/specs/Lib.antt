pub mod AtOnce
pub mod Reasons
pub mod Said
pub mod StrictMachine
pub mod inner
