pub mod Passing
pub mod OneSplit
