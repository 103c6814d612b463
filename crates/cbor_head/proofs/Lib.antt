pub mod Arguments
pub mod HeadBack
pub mod HeadLaws
pub mod Least
pub mod WholeHead
