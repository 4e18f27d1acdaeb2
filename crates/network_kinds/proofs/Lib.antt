pub mod PairByPair
pub mod Drawn
pub mod Members
pub mod Refused
pub mod RowsKinds
