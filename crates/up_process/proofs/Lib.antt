mod Ids
pub mod Words
mod Rows
