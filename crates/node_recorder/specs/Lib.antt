pub use Rattle.flight_recorder.specs as flight_recorder
pub use Rattle.node_follower.specs as node_follower
pub mod BacklogView
pub mod Backlog
pub mod Turns
pub mod Names
pub mod Quiet
