pub mod Above
pub mod Accounts
pub mod LinkSteps
pub mod OneWoven
mod Rows
mod RowsParts
pub mod RowsRun
pub mod RowsBoth
pub mod Steps
pub mod Weaving
pub mod FirstOf
pub mod FirstSoFar
pub mod Unread
pub mod WeaveSteps
