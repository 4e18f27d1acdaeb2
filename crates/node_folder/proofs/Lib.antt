mod Rows
mod RowsNotes
