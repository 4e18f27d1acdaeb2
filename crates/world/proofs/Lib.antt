mod Writing
pub mod SimulatedLines
mod SimulatedBytes
mod SimulatedEnd
pub mod SimulatedPieces
mod RowsSimulated
mod RowsLines
mod RowsAnswers
mod Headline
mod Visits
mod RowsRuns
