pub use Rattle.byte_streams.specs as byte_streams
pub use Rattle.flight_records.specs as flight_records
pub mod Pages
