pub mod Maps
pub mod Cabling
pub mod Settling
pub mod Matching
pub mod Starting
pub mod Finishing
mod Rows
