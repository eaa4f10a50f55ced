pub mod OrderLaws
pub mod ReportLaws
