pub mod PlaceLaws
pub mod NearestLaws
pub mod TokenLaws
pub mod TextLaws
pub mod ValueLaws
