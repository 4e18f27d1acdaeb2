pub use Rattle.topology.specs as topology
pub mod NetworkFile
pub mod FaultText
pub mod Reasons
pub mod News
pub mod Line
