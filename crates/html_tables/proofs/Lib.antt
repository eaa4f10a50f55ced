mod CellRows
pub mod ColumnLaws
pub mod GroupLaws
pub mod WalkLaws
pub mod PlaceLaws
pub mod DownLaws
pub mod SaidLaws
