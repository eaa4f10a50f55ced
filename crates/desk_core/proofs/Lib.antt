pub mod NumberLaws
pub mod InvariantLaws
pub mod JudgedLaws
pub mod StampLaws
pub mod StoodLaws
pub mod ClaimLaws
pub mod BookLaws
pub mod StepLaws
