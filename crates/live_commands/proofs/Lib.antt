mod RowsThreads
