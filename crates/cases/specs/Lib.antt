pub mod Tables
pub mod Cases
pub mod EachNumber
pub mod WrongPlaces
pub mod Useless
