pub mod Flowing
mod Rows
mod RowsLinks
