pub mod Plays
pub mod Feeds
pub mod Rests
