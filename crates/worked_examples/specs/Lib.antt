pub mod Straight
pub mod Worked
pub mod Agreement
pub mod Generated
