pub mod Standing
pub mod Formed
pub mod Numbers
pub mod Trees
pub mod Back
pub mod Form
