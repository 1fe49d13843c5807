pub mod State
pub mod Requests
pub mod Rounds
pub mod Rule
