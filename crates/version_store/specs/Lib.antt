pub mod Change
pub mod Entries
pub mod Kept
