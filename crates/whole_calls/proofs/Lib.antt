pub mod AskLaws
pub mod Calling
pub mod SingleLaws
pub mod TableLaws
