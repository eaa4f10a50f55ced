pub mod Body
pub mod Here
pub mod Names
pub mod Types
pub mod Adding
