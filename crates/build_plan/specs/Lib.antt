pub mod Documents
pub mod Stages
pub mod PageNames
