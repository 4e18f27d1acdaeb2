pub mod Few
mod Rows
