pub mod Backs
pub mod Bounded
pub mod Harmless
pub mod Harms
pub mod Layering
pub mod Plans
pub mod Replays
pub mod ScrambledRuns
pub mod Steps
pub mod Stretches
pub mod Watching
mod RowsGivenBack
pub mod RowsDelays
pub mod RowsMeasured
mod RowsLayered
mod RowsMoves
pub mod RowsScheduled
