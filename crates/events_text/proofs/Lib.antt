pub mod Rows
pub mod RowsWords
pub mod EventSpelling
pub mod EventReading
pub mod UsualLines
pub mod UsualReading
