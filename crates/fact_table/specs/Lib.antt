pub mod Seen
pub mod Claims
pub mod Noted
pub mod Order
pub mod Ranks
pub mod Shelf
pub mod Inside
pub mod Answers
