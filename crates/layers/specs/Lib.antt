pub use Rattle.configuration.specs as configuration
pub use Rattle.convergence.specs as convergence
pub use Rattle.euler_ring.specs as euler_ring
pub mod Numbers
pub mod RingReading
pub mod PayloadReading
pub mod Links
pub mod Stages
pub mod Stops
pub mod LayersOf
