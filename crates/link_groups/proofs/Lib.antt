pub mod NodeLaws
pub mod OnceLaws
pub mod OrderLaws
pub mod ListLaws
pub mod AskedLaws
