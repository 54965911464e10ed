pub mod Words
pub mod Standing
