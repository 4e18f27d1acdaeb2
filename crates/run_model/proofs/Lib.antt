pub mod Steps
pub mod Runs
pub mod Along
pub mod Changed
pub mod Touches
pub mod Splits
pub mod LinkSteps
pub mod EdgeSteps
pub mod Joined
pub mod Edges
pub mod NodeRanges
pub mod Ranges
pub mod Rewiring
pub mod RunRanges
pub mod EdgeRanges
pub mod Renewing
pub mod Stretches
pub mod Counts
pub mod Moments
pub mod NodeEvents
pub mod Strict
pub mod RowsTwo
pub mod RowsServing
pub mod RowsRound
mod RowsSweep
mod RowsCount
pub mod RowsFaults
mod RowsHappened
mod RowsChange
mod RowsParts
mod RowsRewire
