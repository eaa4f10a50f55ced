pub mod PartCountLaws
pub mod ReferenceLaws
pub mod JoinedLaws
