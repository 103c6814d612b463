-- What only private functions mention.
pub mod HeldKeys
pub mod ItemPrefix
pub mod TreeItems
pub mod PlainParts
