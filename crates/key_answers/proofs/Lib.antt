pub mod ChainLaws
pub mod EnoughLaws
pub mod SeenLaws
pub mod TargetLaws
pub mod TextLaws
