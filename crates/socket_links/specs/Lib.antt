pub use Rattle.frame_codec.specs as frame_codec
pub mod Counts
pub mod Pipes
pub mod Writing
pub mod Links
