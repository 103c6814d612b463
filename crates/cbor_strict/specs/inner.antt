-- What only private functions mention.
pub mod LastKeys
pub mod OpenItems
pub mod StrictEvents
pub mod WholeItem
