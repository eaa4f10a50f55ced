pub mod Rules
pub mod ToldLaws
