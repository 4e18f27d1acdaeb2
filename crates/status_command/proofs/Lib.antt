pub mod Lists
pub mod Texts
mod Rows
mod RowsWindow
