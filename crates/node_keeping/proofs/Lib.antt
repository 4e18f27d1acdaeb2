pub mod Keeping
pub mod AfterSaving
pub mod Rows
mod RowsSteps
pub mod Coursing
mod RowsCourse
