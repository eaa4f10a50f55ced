pub mod Listening
pub mod Project
pub mod Command
