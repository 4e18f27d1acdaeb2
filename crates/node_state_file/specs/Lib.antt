pub use Rattle.state_writing.specs.node_core as node_core
pub use Rattle.state_writing.specs.Spelling
pub use Rattle.state_writing.specs.Files
pub mod Reading
pub mod Stores
pub mod Laws
