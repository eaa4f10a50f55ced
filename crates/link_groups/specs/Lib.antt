pub mod LinkNodes
pub mod LinkLists
pub mod Asked
pub mod PageMarks
