pub mod Grammar
pub mod Readings
pub mod Machine
