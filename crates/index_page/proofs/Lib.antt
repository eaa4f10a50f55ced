pub mod BodyLaws
pub mod GroupLaws
pub mod TermLaws
pub mod TextLaws
