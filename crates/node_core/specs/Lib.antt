pub use Rattle.data_link.specs.link_model as link_model
pub use Rattle.lock_desk.specs as lock_desk
pub use Rattle.data_link.specs as data_link
pub use Rattle.registers.specs as registers
pub use Rattle.euler_ring.specs as euler_ring
pub use Rattle.bfs_tree.specs as bfs_tree
pub use Rattle.registers.specs.k_state as k_state
pub mod Site
pub mod State
pub mod Writes
pub mod Machines
pub mod Step
pub mod Rewire
pub mod Status
pub mod OnRegisters
pub mod View
pub mod Deeds
pub mod Laws
