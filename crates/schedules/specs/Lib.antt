pub use Rattle.damage_tool.specs as damage_tool
pub mod Rounds
pub mod Random
pub mod Slow
pub mod Taking
pub mod Below
pub mod Laws
