pub mod Accepted
pub mod Desks
pub mod Differ
pub mod FactsJoin
pub mod Links
pub mod Orders
pub mod Places
pub mod Quiet
pub mod Reached
pub mod Replays
mod RowsEntries
mod RowsFields
pub mod Same
pub mod SetUps
pub mod Steps
pub mod Whole
