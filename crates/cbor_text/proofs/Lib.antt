pub mod AsciiMasks
pub mod TextPrefixes
