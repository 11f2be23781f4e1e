pub mod Cases
pub mod EachNumber
pub mod WrongPlaces
pub mod AllRoom
pub mod Useless
