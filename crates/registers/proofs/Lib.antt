pub mod Places
pub mod Rewired
mod Rows
pub mod Start
