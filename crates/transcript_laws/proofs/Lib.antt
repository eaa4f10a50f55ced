pub mod LineOnceLaws
pub mod OnceLaws
pub mod ShownOnceLaws
