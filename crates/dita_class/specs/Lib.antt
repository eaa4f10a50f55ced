pub mod Specializes
