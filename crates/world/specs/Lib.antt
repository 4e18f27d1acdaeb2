pub use Rattle.judge.specs.run_model as run_model
pub use Rattle.events_text.specs as events_text
pub use Rattle.judge.specs as judge
pub mod StateText
pub mod SimulatedText
pub mod Simulating
pub mod UnderWay
pub use Rattle.convergence.specs.Laws
pub use Rattle.judge.specs.run_model.Headline
pub mod Numbers
