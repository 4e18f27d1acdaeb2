pub use Rattle.program_ends.specs.command_faults as command_faults
pub use Rattle.program_ends.specs as program_ends
pub mod Ends
pub mod Refused
