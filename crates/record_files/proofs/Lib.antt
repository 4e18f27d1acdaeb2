pub mod Noted
mod Rows
mod RowsNoted
