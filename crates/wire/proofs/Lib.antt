pub mod Reasons
pub mod Laws
pub mod Continued
pub mod Gives
pub mod Answered
