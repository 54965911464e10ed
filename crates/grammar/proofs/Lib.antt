pub mod Machines
pub mod Builds
pub mod Complete
pub mod Sound
pub mod Places
pub mod From
