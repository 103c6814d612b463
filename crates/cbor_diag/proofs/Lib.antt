mod Explained
mod HiddenSteps
pub mod Layouts
pub mod Leaving
mod PathKeys
mod PathSteps
pub mod PieceTexts
pub mod Putting
pub mod ReadBack
pub mod ReadLeaves
pub mod Reading
mod SurroundingLines
pub mod TextGiven
