pub use Rattle.flight_recorder.specs as flight_recorder
pub use Rattle.node_recorder.specs as node_recorder
pub use Rattle.record_pages.specs as record_pages
pub use Rattle.record_gathering.specs as record_gathering
pub use Rattle.command_parts.specs.schedules as schedules
pub use Rattle.command_parts.specs as command_parts
pub mod Reading
pub mod Folder
pub mod Network
pub mod View
pub mod Records
pub mod Weave
pub mod Damage
pub mod Delays
pub mod Watch
pub mod WeavingView
pub mod Scene
pub mod Woven
pub mod Stretch
pub mod Gathered
pub mod Part
pub mod Lines
pub mod Ends
pub mod Laws
