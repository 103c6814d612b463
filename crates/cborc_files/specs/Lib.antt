pub mod Digits
pub mod Disk
pub mod Folder
pub mod Hex
pub mod InMemory
pub mod Place
pub mod Recording
pub mod Visible
