pub mod Front
pub mod MissingValue
pub mod Steps
pub mod Histories
pub mod Runs
pub mod Parallel
pub mod Ages
mod Rows
pub mod Boundary
