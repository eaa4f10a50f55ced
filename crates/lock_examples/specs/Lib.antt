pub mod Toy
pub mod LineLanguage
pub mod LineLaws
