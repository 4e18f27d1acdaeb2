pub mod JunkLines
pub mod FourParts
pub mod Runs
mod RowsTexts
mod RowsFiles
mod RowsFaults
mod RowsPlots
