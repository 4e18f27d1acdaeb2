pub mod Seconds
pub mod Ends
pub mod Stills
mod RowsStills
pub mod Marks
pub mod Columns
pub mod Strips
pub mod Marking
pub mod Sights
pub mod Recordings
pub mod Visits
pub mod RunsOfMarks
pub mod Rows
mod RowsTwo
mod RowsMarks
mod RowsChanges
mod RowsSights
