pub use Rattle.run_model.specs.euler_ring as euler_ring
pub use Rattle.run_model.specs.lock_desk as lock_desk
pub use Rattle.run_model.specs.link_model as link_model
pub use Rattle.run_model.specs.data_link as data_link
pub mod Present
pub mod Laws
