pub mod Bound
pub mod BoundData
pub mod Faults
pub mod Named
