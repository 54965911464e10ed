pub mod Recording
pub mod Answers
