pub use Rattle.run_model.proofs.RowsTwo
pub use Rattle.weaving.proofs.RowsRun
pub use Rattle.weaving.proofs.RowsBoth
pub mod Stamps
pub mod Receiving
pub mod Spends
pub mod Accounts
pub mod AccountEvents
pub mod RowsFirst
pub mod Chances
pub mod Deeds
pub mod PortLists
pub mod PortDeeds
pub mod Rounds
mod RowsRounds
mod RowsDeeds
