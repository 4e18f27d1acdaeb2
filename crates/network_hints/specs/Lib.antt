pub mod Keys
pub mod HintText
pub mod Values
pub mod ValuesView
pub mod Reading
pub mod Likeness
pub mod Places
