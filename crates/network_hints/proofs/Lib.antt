mod EdgesRead
mod KeyNames
mod RowsHints
