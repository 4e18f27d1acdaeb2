mod RowsEnds
mod RowsFaults
mod RowsOutput
