pub mod Damaged
pub mod Cut
pub mod Faults
pub mod PlanFault
pub mod Measured
pub mod Turns
pub mod Worst
pub mod MeasuredData
pub mod MeasuredCsv
pub mod MeasuredPlot
pub use Rattle.network_commands.specs as network_commands
pub use Rattle.command_parts.specs as command_parts
pub use Rattle.experiments.specs as experiments
pub mod Hints
pub mod LayersText
