mod CheckedParts
mod Earlier
pub mod Faults
pub mod Files
mod Prefixes
mod Further
mod ItemFaults
mod ItemFiles
mod Items
mod Listings
pub mod Lists
pub mod NoInput
pub mod Outputs
pub mod Places
mod ReadParts
pub mod Results
mod Runs
mod SequenceItems
mod SequenceListings
mod Sources
mod Stopped
mod Taken
mod Undecided
mod Unreported
mod Whole
pub mod Within
