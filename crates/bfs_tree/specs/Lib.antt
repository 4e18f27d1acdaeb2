pub mod Step
pub mod Stage
pub mod Laws
