pub use Rattle.command_faults.specs as command_faults
pub use Rattle.schedules.specs as schedules
pub use Rattle.world.specs as world
pub mod SimulationFault
pub mod Simulated
pub mod EventText
pub mod Returns
