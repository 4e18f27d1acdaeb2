pub mod Clock
pub mod Ports
pub mod Nodes
pub mod Plans
pub mod Laws
