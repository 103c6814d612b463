-- What only private functions mention.
pub mod KeyBytes
pub mod ViewSinks
