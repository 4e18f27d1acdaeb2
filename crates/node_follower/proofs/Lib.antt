mod Following
mod Rows
