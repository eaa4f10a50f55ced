pub mod Rules
mod StoredLaws
pub mod KindLaws
