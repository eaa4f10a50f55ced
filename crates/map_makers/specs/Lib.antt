pub mod Counts
pub mod PlanTells
pub mod PartsTell
