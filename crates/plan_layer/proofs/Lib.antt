pub mod CarryLaws
pub mod PassLaws
pub mod BelowLaws
mod CallLaws
mod FromLaws
