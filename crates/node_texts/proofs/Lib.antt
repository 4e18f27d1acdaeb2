pub mod StatusSpelling
pub mod NumbersRead
mod RowsTexts
pub mod RowsLook
