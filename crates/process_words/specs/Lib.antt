pub use Rattle.command_words.specs as command_words
pub mod GivenRights
pub mod LogAndRecord
pub mod Manner
pub mod NodeWords
