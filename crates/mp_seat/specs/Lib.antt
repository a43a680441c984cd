pub mod Seats
pub mod Rule
pub mod Seated
