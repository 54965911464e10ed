pub mod Intake
