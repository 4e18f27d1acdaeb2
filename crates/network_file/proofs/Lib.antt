mod RowsNews
