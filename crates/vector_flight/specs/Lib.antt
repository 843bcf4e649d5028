pub mod Flights
pub mod Held
