pub mod NodeLines
pub mod Saying
pub mod Counting
mod RowsCounted
mod RowsStatus
mod RowsLookers
