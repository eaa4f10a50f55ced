pub mod HistoryLaws
pub mod ShownLaws
pub mod ToldLaws
