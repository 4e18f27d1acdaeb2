pub use Rattle.node_log.specs as node_log
pub use Rattle.node_keeping.specs as node_keeping
pub use Rattle.network_file.specs as network_file
pub use Rattle.node_keeping.specs.node_texts as node_texts
pub mod Rights
pub mod Start
pub mod Texts
pub mod Said
