-- What only private functions mention.
pub mod Begins
pub mod Cells
pub mod Faults
pub mod Items
pub mod Kept
pub mod Leaves
pub mod OpenContainer
pub mod OpenMaps
pub mod Parser
pub mod Parts
pub mod Repeated
pub mod Rules
pub mod Skip
pub mod StrictRules
