mod RowsFaults
mod RowsKinds
