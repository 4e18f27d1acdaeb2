pub mod Woven
pub mod Journals
pub mod Account
pub mod Matched
pub mod Laws
