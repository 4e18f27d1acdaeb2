pub mod Writing
pub mod Reading
mod Rows
