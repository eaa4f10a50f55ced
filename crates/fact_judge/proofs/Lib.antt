pub mod AnswerLaws
pub mod FoundedLaws
pub mod EqLaws
pub mod StoodLaws
pub mod EachLaws
pub mod TableLaws
pub mod OwnLaws
