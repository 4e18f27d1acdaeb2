pub mod Neighbours
pub mod Accepted
pub mod Drawing
pub mod JunkBytes
pub mod Ports
pub mod Scrambles
mod RowsDrawn
mod RowsDraws
