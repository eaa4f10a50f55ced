pub mod FlagLaws
pub mod OnceLaws
pub mod PlaceLaws
pub mod TokenLaws
