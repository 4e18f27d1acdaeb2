pub mod Desk
pub mod View
pub mod Act
pub mod Queue
pub mod Laws
pub mod ClientText
