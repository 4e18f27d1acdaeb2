pub use Rattle.data_link.specs.topology as topology
pub use Rattle.data_link.specs.k_state as k_state
pub use Rattle.data_link.specs as data_link
pub mod Registers
pub mod Rewire
