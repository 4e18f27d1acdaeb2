pub mod Places
pub mod Pushing
pub mod Hearing
pub mod Loose
pub mod Arrivals
pub mod Rooms
pub mod Lives
pub mod Heard
pub mod Written
pub mod GoingOut
pub mod BeingRead
pub mod Ends
pub mod Saying
pub mod Serving
pub mod Served
pub mod RowsEnds
pub mod RowsHeard
pub mod RowsSaid
mod RowsLives
pub mod RowsPorts
mod RowsVisitors
mod RowsConnections
