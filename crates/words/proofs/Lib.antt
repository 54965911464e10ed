pub mod Letters
pub mod Standing
