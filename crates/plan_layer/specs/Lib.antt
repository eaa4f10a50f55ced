pub mod Carried
pub mod Passing
