mod NotedAgain
mod Entries
mod InPieces
mod Loop
mod ShortForms
mod Rows
mod RowsAgain
