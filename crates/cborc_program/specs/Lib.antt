pub mod Run
pub mod SeveralFiles
pub mod Watched
pub mod inner
