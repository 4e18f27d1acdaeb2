pub mod Neighbours
pub mod Numbers
mod Rows
mod RowsStores
