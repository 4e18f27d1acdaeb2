pub mod Passing
pub mod Phases
pub mod Turning
pub mod Joining
pub mod Whole
pub mod Repeating
mod RowsStood
mod RowsRunning
mod RowsRepeating
