pub mod TableLaws
pub mod TargetLaws
pub mod WalkLaws
