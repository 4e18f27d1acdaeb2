pub use Rattle.command_faults.specs as command_faults
pub mod FaultLine
pub mod Ends
pub mod Kinds
