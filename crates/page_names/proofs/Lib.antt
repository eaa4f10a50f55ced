mod AimLaws
mod BaseLaws
mod GivenUseLaws
mod KeyLaws
pub mod MadeLaws
mod NameLaws
mod OnceLaws
mod PageUseLaws
mod UseLaws
mod UsedLaws
