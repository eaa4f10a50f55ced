pub mod BatchLaws
pub mod HistoryLaws
pub mod ProgramLaws
pub mod WholeLaws
