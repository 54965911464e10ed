pub mod References
pub mod Typed
