pub mod Events
pub mod Rate
pub mod Turns
pub mod Places
pub mod Line
pub mod Laws
