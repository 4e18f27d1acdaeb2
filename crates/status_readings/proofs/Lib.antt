pub mod Trees
pub mod Verdicts
pub mod Examples
pub mod RowsMinute
mod RowsStanding
pub mod RowsPremises
mod RowsReport
