pub mod Annotated
pub mod Listing
pub mod Written
pub mod inner
