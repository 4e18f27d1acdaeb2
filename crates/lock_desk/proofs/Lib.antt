pub mod Ranges
pub mod Stay
pub mod Passing
pub mod ClientLemmas
pub mod Rows
mod RowsLaws
mod RowsParts
