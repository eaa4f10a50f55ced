pub mod Calls
pub mod Cause
pub mod Forms
pub mod Links
pub mod Pages
pub mod Rooms
pub mod Taken
