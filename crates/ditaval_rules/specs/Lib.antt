pub mod Aim
pub mod Declarations
pub mod Domains
pub mod Names
pub mod Reading
pub mod Rules
pub mod Subject
pub mod Verdict
