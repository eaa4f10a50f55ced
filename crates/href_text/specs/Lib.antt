pub mod Reference
pub mod Joined
