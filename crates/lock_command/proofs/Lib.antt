pub mod Drives
pub mod GuardDriven
pub mod Comings
mod RowsWork
mod RowsCourse
mod RowsNotices
mod Heard
