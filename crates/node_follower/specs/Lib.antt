pub use Rattle.flight_records.specs as flight_records
pub use Rattle.node_core.specs as node_core
pub mod Following
pub mod Parts
