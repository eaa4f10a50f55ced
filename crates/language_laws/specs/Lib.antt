pub mod PlanTree
pub mod Kept
pub mod Paths
pub mod Steps
