pub mod AskLaws
pub mod BehindLaws
pub mod BodyLaws
pub mod FoundLaws
pub mod GatheredLaws
pub mod GivenLaws
pub mod LinkLaws
pub mod MarkLaws
pub mod NameLaws
pub mod OnceLaws
mod OverLaws
pub mod PageLaws
pub mod PartLaws
pub mod PlanLaws
pub mod Putting
pub mod ReadLaws
pub mod ReadyLaws
pub mod RootLaws
pub mod RowLaws
mod TableLaws
pub mod TermLaws
pub mod TopicLaws
