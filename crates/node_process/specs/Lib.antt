pub use Rattle.record_files.specs.process_parts as process_parts
pub mod Ends
