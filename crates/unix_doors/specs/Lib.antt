pub use Rattle.node_connections.specs as node_connections
pub mod Seats
