pub mod Domains
pub mod Filtered
pub mod Sieve
