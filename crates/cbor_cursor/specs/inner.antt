pub mod Canonical
pub mod Definite
pub mod Firsts
pub mod Indexing
pub mod Pairs
