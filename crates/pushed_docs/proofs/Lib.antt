pub mod Rules
pub mod MadeLaws
pub mod KeptLaws
pub mod QuietLaws
pub mod AskedLaws
mod DocLaws
