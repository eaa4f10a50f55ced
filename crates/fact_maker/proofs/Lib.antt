pub mod AloneLaws
pub mod AskedForLaws
pub mod AskedLaws
mod ContentsRightLaws
pub mod GroundLaws
mod GroundRightLaws
mod KeyPastLaws
pub mod LinkLaws
pub mod MadeLaws
mod MakeLaws
pub mod MovedLaws
pub mod NameLaws
mod OwnAskLaws
mod OwnLaws
mod OwnOrderLaws
mod PageRightLaws
mod PartMadeLaws
mod PartReadyLaws
pub mod PlannedLaws
mod PropLaws
mod ReadyLaws
mod RightLaws
pub mod TextLaws
