pub mod Going
pub mod Rows
mod RowsParts
