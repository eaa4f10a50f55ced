mod KeptLaws
pub mod EditLaws
pub mod FoundLaws
pub mod HistoryLaws
