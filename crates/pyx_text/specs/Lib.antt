pub mod Machine
pub mod Canonical
pub mod Read
pub mod Pieces
pub mod Reader
