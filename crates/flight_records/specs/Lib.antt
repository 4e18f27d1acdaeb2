pub use Rattle.leb128.specs as leb128
pub mod Numbers
pub mod Spelling
pub mod Reading
pub mod Frames
pub mod Again
pub mod Laws
