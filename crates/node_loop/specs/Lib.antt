pub use Rattle.node_service.specs as node_service
pub use Rattle.node_connections.specs as node_connections
pub use Rattle.node_core.specs as node_core
pub mod Moments
pub mod Hearing
pub mod Remembering
pub mod Speaking
pub mod Turns
pub mod Noting
pub mod Said
