pub use Rattle.world.specs.judge as judge
pub use Rattle.world.specs.run_model as run_model
pub use Rattle.world.specs.events_text as events_text
pub use Rattle.world.specs.judge.configuration as configuration
pub use Rattle.layers.specs as layers
pub use Rattle.world.specs.SimulatedText
pub mod Stills
pub mod Reels
pub mod Marks
pub mod Columns
pub mod Strips
pub mod Seen
pub mod SightSteps
pub mod Held
pub mod UnderWay
pub mod Filmed
pub mod Laned
pub mod Recordings
pub mod RecordingSteps
pub mod TreeEdges
pub mod Visits
pub mod Runs
