pub mod Content
pub mod PageDocuments
