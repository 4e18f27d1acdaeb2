pub mod EventLines
mod RowsTexts
