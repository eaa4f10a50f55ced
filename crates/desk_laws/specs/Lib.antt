pub mod OneHistory
pub mod SureRun
pub mod WholeBatch
pub mod WholeRun
