pub mod Machine
pub mod Ring
pub mod Ages
pub mod Laws
