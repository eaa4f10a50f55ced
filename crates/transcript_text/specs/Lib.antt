pub mod Below
pub mod Heads
pub mod Read
pub mod State
pub mod Told
pub mod Words
pub mod Written
pub mod Transcript
