pub mod Became
pub mod Leaving
pub mod Noting
pub mod Pieces
pub mod Saying
pub mod Serving
mod Rows
mod RowsNoting
pub mod RowsPieces
pub mod RowsHeard
