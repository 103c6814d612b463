pub mod CanonSink
pub mod Expected
pub mod NotCanonical
pub mod ParsedItem
pub mod Sink
pub mod Stack
pub mod Strings
pub mod inner
