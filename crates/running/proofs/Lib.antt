pub mod Rows
pub mod Turning
pub mod Asks
pub mod Answered
