pub mod Answers
pub mod Asking
pub mod Ends
pub mod Pass
pub mod Saying
pub mod Serving
pub mod SoFar
