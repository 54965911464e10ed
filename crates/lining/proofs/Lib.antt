pub mod Finding
pub mod Steps
