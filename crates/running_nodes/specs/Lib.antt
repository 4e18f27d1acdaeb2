pub mod Stretches
pub mod Stood
pub mod Pipes
pub mod Running
pub mod Repeating
pub mod Laws
