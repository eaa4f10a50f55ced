pub mod StoredLaws
pub mod OrderLaws
pub mod SameLaws
pub mod ReadBackLaws
pub mod ElementLaws
pub mod PagesReadLaws
