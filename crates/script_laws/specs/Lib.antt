pub mod Words
pub mod Blocks
pub mod Follows
pub mod Printable
