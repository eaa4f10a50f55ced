pub mod Building
pub mod Made
pub mod Origins
