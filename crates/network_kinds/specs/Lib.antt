pub mod Kinds
pub mod Random
pub mod Made
pub mod Text
