pub mod CanonicalPrefixes
pub mod CanonicaliserRefusals
pub mod Comparing
pub mod CutShort
mod Examples
pub mod Headline
pub mod KeyStrings
pub mod KeysApart
pub mod KeysGiven
pub mod KeysKept
pub mod OnResults
pub mod OneResult
pub mod OwnResults
pub mod Readings
pub mod RepeatsReported
pub mod SequenceLaws
pub mod Sequences
pub mod ValidTexts
mod ViewPrefixes
mod ViewGiven
pub mod WholeItems
mod WrittenParts
