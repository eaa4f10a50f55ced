pub mod PageLaws
pub mod PieceLaws
pub mod RelatedLaws
