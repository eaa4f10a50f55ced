pub mod BareLaws
pub mod ChildLaws
pub mod FaultLaws
pub mod RootLaws
pub mod SpecialLaws
pub mod UnderLaws
