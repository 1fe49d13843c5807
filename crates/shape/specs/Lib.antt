pub mod MakeErrors
pub mod Numbers
pub mod Refusals
