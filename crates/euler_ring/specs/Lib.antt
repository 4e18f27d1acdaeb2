pub mod Cycle
pub mod Mask
pub mod Tour
pub mod Laws
