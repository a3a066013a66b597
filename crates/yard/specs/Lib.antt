pub mod Yards
