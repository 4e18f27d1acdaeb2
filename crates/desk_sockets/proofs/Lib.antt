pub mod DeskNames
pub mod Finding
mod Rows
