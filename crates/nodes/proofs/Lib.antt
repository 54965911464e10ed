pub mod Expressions
pub mod Answered
