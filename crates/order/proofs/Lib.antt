pub mod Rows
pub mod Passes
pub mod Comes
pub mod Numbers
pub mod Nodes
pub mod Figures
pub mod Programs
pub mod Orders
