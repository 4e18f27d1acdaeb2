pub mod FirstWords
pub mod MoreDigits
pub mod Spelling
pub mod Rows
