pub mod Readings
pub mod TooLong
pub mod Cutting
pub mod SaidFrames
mod Rows
mod RowsReader
