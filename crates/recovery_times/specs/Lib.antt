pub mod Times
pub mod Reading
pub mod Laws
pub mod Text
pub mod Words
