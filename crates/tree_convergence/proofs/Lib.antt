mod Along
mod Own
mod Links
mod Stages
pub mod SameParent
mod Parents
mod Sums
mod RowsPresent
