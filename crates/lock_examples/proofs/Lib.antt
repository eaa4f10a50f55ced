mod Short
mod SeenRows
mod ClaimRows
mod WorkRows
mod SessionLaws
