pub use Rattle.configuration.specs as configuration
pub use Rattle.flight_records.specs as flight_records
pub use Rattle.node_follower.specs as node_follower
pub mod Accepted
pub mod Counts
pub mod Differences
pub mod Entries
pub mod Facts
pub mod Fields
pub mod Firsts
pub mod Frames
pub mod Laws
pub mod Order
pub mod Parts
pub mod Queues
pub mod Standing
pub mod SetUps
pub mod States
pub mod View
