pub use Rattle.weaving.specs as weaving
pub mod Stamps
pub mod Ports
pub mod Runner
pub mod Rounds
pub mod FirstTurn
pub mod Due
pub mod Laws
