pub mod Infix
