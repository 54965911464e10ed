pub mod Written
pub mod OneForm
