pub use Rattle.turn_watch.specs as turn_watch
pub mod NodeStatus
pub mod NodeLook
pub mod Counted
pub mod Lookers
pub mod Laws
