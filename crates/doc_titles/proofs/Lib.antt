pub mod TitleLaws
pub mod TopicLaws
