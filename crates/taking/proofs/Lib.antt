pub mod Trees
pub mod Numbers
pub mod Lines
