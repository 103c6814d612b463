pub mod Appended
mod InMemory
mod Places
mod Spelled
