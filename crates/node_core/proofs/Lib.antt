pub mod Chosen
pub mod Heard
pub mod InRange
pub mod Joined
pub mod Moves
pub mod OnTree
mod Rows
mod RowsDeeds
pub mod Same
pub mod Ticks
pub mod Written
