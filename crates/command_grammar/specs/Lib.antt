pub mod Numbers
pub mod Parsers
pub mod Given
pub mod FaultText
