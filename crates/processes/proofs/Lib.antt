pub mod Lists
pub mod OneMark
pub mod Steps
pub mod SameHistory
pub mod Runs
pub mod Histories
pub mod Merging
pub mod Order
pub mod Promise
pub mod WindowTicks
pub mod WindowLinks
pub mod Windows
pub mod TurnWindows
pub mod FullTicks
mod RowsTiming
mod RowsTimes
mod RowsDeeds
mod RowsLoans
pub mod OneDeed
pub mod OwnFrames
pub mod Connections
pub mod Bytes
pub mod Frames
pub mod OverBytes
pub mod RowsLinks
mod RowsProcesses
pub mod RowsBytes
