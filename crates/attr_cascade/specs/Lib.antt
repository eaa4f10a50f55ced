pub mod Nearest
pub mod Tokens
pub mod Values
