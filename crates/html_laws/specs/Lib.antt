pub mod Markup
pub mod Tags
pub mod Utf8
