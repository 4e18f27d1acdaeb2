pub use Rattle.run_model.specs.lock_desk as lock_desk
pub use Rattle.run_model.specs.link_model as link_model
pub mod Appended
pub mod Draws
pub mod Harms
pub mod Laws
pub mod Scrambled
