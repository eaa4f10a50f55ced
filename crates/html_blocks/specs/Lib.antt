pub mod Anchors
pub mod Marks
pub mod Opened
pub mod Shown
pub mod Walk
