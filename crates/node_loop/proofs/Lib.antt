pub use Rattle.node_connections.proofs as node_connections
pub mod Sights
pub mod Speaking
pub mod Hearing
pub mod Noting
pub mod Remembering
pub mod Turning
pub mod Accounts
mod RowsTurns
mod RowsRemembering
mod RowsEnds
mod RowsPorts
mod RowsSaid
mod RowsHeard
mod RowsMore
mod RowsNoted
