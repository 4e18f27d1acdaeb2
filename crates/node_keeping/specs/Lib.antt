pub use Rattle.node_texts.specs as node_texts
pub mod Sight
pub mod AfterSave
pub mod Steps
pub mod Laws
pub mod Course
pub mod CourseLaws
