pub use Rattle.node_state_file.specs as node_state_file
pub mod NoteText
pub mod Texts
