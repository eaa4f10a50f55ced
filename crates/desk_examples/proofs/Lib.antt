mod Small
mod TableRows
mod ClaimRows
mod BookRows
mod FactRows
mod LimitRows
