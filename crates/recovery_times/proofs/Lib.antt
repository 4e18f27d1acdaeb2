pub mod Digits
pub mod Points
mod Rows
mod RowsPremises
