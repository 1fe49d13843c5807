pub mod Rounds
pub mod Requests
pub mod Admitted
