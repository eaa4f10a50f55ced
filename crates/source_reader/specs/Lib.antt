pub mod Stored
pub mod Kinds
