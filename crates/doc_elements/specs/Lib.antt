pub mod Root
pub mod Walk
