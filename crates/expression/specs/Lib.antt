pub mod Expression
