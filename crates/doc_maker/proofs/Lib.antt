pub mod BuildingLaws
pub mod MadeLaws
pub mod MakerLaws
pub mod OriginLaws
pub mod SeenLaws
