pub use Rattle.node_recorder.specs as node_recorder
pub use Rattle.process_parts.specs as process_parts
pub mod Files
pub mod Kept
pub mod Noted
