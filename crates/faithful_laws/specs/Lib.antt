pub mod OneHistory
pub mod ReadBack
pub mod PagesRead
