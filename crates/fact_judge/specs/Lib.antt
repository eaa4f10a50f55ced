pub mod Answer
pub mod Agreed
pub mod Order
pub mod Founded
pub mod Asks
pub mod Sound
pub mod Judging
