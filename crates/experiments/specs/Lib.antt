pub use Rattle.layers.specs as layers
pub use Rattle.schedules.specs as schedules
pub mod Delays
pub mod Laws
pub mod Layered
pub mod Moves
pub mod Plan
pub mod Recovery
pub mod Runs
pub mod Scheduled
pub mod Shown
pub mod Summary
pub mod Watched
pub mod GivenBack
