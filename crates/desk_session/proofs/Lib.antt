pub mod Lists
pub mod GoesLaws
mod LinkLaws
pub mod AnswerLaws
pub mod RowLaws
mod TextLaws
mod AskLaws
mod ReadLaws
mod SoFarLaws
mod EndLaws
