pub mod Tables
pub mod Members
pub mod Carrying
pub mod Asking
pub mod Views
pub mod Choosing
pub mod AskedSlots
