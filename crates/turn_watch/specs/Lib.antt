pub mod Turns
pub mod Loans
pub mod Links
pub mod Rounds
pub mod Laws
pub mod Notes
