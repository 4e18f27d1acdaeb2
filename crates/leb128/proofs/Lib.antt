mod Numbers
pub mod InPieces
mod Rows
