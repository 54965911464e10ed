pub mod Naming
pub mod Counting
pub mod Putting
pub mod Taking
pub mod OneLine
