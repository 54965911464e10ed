pub mod Layout
pub mod Lines
pub mod Fields
pub mod Listed
pub mod Heads
pub mod Alarms
pub mod Ends
