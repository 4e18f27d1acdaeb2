pub use Rattle.node_core.specs as node_core
pub mod Spelling
pub mod Stores
pub mod Files
