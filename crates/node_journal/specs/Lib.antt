pub mod Places
pub mod Said
