pub use Rattle.command_words.specs as command_words
pub mod Words
pub mod Needed
pub mod Interval
pub mod LockWords
pub mod StatusWords
