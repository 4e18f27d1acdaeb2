pub mod Children
pub mod Sizes
pub mod Texts
