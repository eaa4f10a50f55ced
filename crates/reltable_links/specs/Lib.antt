pub mod CellTable
pub mod Below
pub mod Linked
pub mod Standings
pub mod RowTable
