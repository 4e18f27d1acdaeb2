pub use Rattle.run_model.specs.data_link as data_link
pub use Rattle.run_model.specs.link_model as link_model
pub use Rattle.run_model.specs.node_core as node_core
pub use Rattle.run_model.specs as run_model
pub mod PairTable
pub mod Placed
pub mod LinksView
pub mod ConfigurationView
pub mod Rewired
pub mod Answers
pub mod Sight
pub mod TreeShown
