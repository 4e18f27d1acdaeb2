pub use Rattle.configuration.specs.run_model as run_model
pub use Rattle.configuration.specs.node_core as node_core
pub use Rattle.configuration.specs as configuration
pub mod Tallies
pub mod Laid
pub mod Stretch
pub mod Judging
pub mod Visited
pub mod Below
pub mod JudgeView
pub mod Parts
