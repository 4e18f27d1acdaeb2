pub mod Accepted
pub mod Ascending
pub mod Faults
pub mod Fits
pub mod Ports
pub mod ReadAgain
pub mod Restored
pub mod Rows
mod RowsParts
mod RowsStores
pub mod Spelled
pub mod Stored
pub mod Written
