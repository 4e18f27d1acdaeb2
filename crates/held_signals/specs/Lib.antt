pub mod Signals
pub mod StatusLines
