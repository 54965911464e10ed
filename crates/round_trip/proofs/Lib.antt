pub mod InForm
pub mod Back
pub mod Trip
