pub mod Drawn
pub mod Nesting
mod RowsDrawn
mod RowsGrouped
