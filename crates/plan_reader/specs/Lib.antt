pub mod Made
pub mod Keyed
pub mod Tables
