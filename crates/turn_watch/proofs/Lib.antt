pub mod Gaps
pub mod Rows
pub mod RowsParts
