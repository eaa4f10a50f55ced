pub mod DomainLaws
pub mod HomeLaws
mod SieveLaws
