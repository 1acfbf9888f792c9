pub mod Trips
