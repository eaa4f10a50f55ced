pub mod Reached
pub mod Unread
