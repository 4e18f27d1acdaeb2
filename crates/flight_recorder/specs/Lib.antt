pub use Rattle.flight_records.specs as flight_records
pub mod View
pub mod Recorder
pub mod Resume
pub mod Names
pub mod Laws
