pub mod FindLaws
pub mod RowLaws
