pub mod Names
pub mod LineText
pub mod StatusText
pub mod StatusLaws
pub mod LookText
pub mod Thousandths
