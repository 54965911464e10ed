pub mod Program
pub mod Acceptance
pub mod Answers
pub mod References
pub mod Trial
