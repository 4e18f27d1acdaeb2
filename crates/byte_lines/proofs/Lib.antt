pub mod WholeText
pub mod Growing
pub mod Cutting
pub mod Keeping
mod Rows
