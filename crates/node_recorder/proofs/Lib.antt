mod Parts
mod Zipped
mod Steps
mod Rows
