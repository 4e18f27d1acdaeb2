pub mod Ends
pub mod FaultText
pub mod Output
pub mod PathFaultText
