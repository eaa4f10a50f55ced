pub mod CodeNumber
pub mod FaultLine
pub mod Report
