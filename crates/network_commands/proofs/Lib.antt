pub mod Naming
pub mod Spaced
pub mod Listed
mod Rows
