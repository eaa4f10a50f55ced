pub mod Short
pub mod Project
