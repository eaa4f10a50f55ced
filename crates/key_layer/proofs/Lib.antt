pub mod AnswerLaws
pub mod BelowLaws
pub mod PassingLaws
pub mod ReadyLaws
pub mod TellingLaws
