pub mod Records
pub mod Questions
pub mod Fitting
pub mod Opening
pub mod Loading
pub mod Answers
