mod AtMost
pub mod Counting
pub mod RowsGuard
pub mod Guarding
pub mod Holding
pub mod LineLemmas
pub mod Losing
pub mod Rows
mod RowsSteps
mod RowsEnds
