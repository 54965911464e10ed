mod Facts
mod Same
mod Rows
mod Loose
pub mod Learnt
