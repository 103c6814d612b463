pub mod Kinds
pub mod Nodes
pub mod OpenValues
pub mod Refused
pub mod ViewValue
pub mod Sent
pub mod View
pub mod inner
