pub mod Aims
pub mod Made
pub mod PageUses
pub mod Shown
pub mod Taken
pub mod Used
pub mod Uses
