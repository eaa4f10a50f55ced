pub mod Alone
pub mod Findings
pub mod Made
pub mod Own
pub mod Parts
pub mod Planned
pub mod Ready
pub mod Right
