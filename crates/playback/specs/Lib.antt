pub mod Playback
pub mod Answers
