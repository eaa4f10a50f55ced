pub mod Accepting
pub mod Ending
pub mod Ends
pub mod HasServed
pub mod Running
pub mod Sessions
