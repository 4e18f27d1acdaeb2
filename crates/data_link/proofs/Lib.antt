pub mod LinkSteps
pub mod UnderWay
pub mod EdgeRanges
pub mod Stable
pub mod Marks
pub mod Sweeping
pub mod Known
pub mod SixSweeps
pub mod Refresh
pub mod Strict
mod PortRange
mod Rows
mod RowsPort
