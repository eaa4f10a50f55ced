pub mod Anchors
pub mod Blocks
pub mod Contents
pub mod PageHtml
pub mod Tables
pub mod Terms
