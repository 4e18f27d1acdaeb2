pub mod Drawn
pub mod Head
pub mod Legend
pub mod Picture
pub mod Curves
pub mod Words
pub mod Over
pub mod Sweeps
pub mod Axis
pub mod Parts
pub mod Lanes
pub mod Settled
mod Rows
mod RowsPicture
mod RowsShown
mod RowsSettled
