pub mod PageLinks
pub mod Single
pub mod Tables
