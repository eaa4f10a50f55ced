pub mod Lists
pub mod Grouped
pub mod Sequenced
pub mod Families
pub mod Collected
