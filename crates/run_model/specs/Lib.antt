pub use Rattle.node_core.specs.euler_ring as euler_ring
pub use Rattle.node_core.specs.lock_desk as lock_desk
pub use Rattle.link_model.specs as link_model
pub use Rattle.link_model.specs.topology as topology
pub use Rattle.node_core.specs.data_link as data_link
pub use Rattle.node_core.specs as node_core
pub mod World
pub mod Rewire
pub mod Step
pub mod Run
pub mod Sweep
pub mod Privilege
pub mod Headline
pub mod Start
pub mod Strict
pub mod Count
pub mod Tree
pub mod NodeCounts
pub mod Links
pub mod Visited
pub mod Happened
pub mod Stretch
pub mod Greedy
pub mod Project
pub mod Ticks
pub mod SameFrame
pub mod Touched
pub mod Laws
