pub mod Answers
pub mod Passing
pub mod Ready
