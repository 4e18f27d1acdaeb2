pub use Rattle.subcommands.specs as subcommands
pub mod Turns
pub mod Scheduling
pub mod Plan
pub mod Wanted
pub mod Worst
pub mod Gather
