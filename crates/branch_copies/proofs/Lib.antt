mod AppendedLaws
mod BranchLaws
mod DitavalLaws
mod EndLaws
mod FirstLaws
mod LeavesLaws
mod MarkLaws
mod OwnLaws
mod PlacedLaws
mod ReadLaws
mod ReadingLaws
mod RefLaws
pub mod SeenLaws
mod SightLaws
mod StandLaws
mod StepLaws
mod ThroughLaws
mod TopLaws
mod TreeLaws
pub mod DitavalrefLaws
pub mod LeftLaws
