pub use Rattle.link_model.specs.topology as topology
pub use Rattle.link_model.specs as link_model
pub use Rattle.k_state.specs as k_state
pub mod Port
pub mod Heard
pub mod PortLaws
pub mod Edge
pub mod Sweep
pub mod SixSweeps
pub mod Refreshing
pub mod Laws
