pub mod Book
pub mod Events
pub mod Steps
pub mod Invariant
pub mod Seen
