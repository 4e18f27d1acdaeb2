pub mod Parts
pub mod Numbers
pub mod Axes
pub mod Tallies
mod Rows
