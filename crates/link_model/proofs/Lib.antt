pub mod Turning
pub mod Lists
pub mod Marks
mod Rows
