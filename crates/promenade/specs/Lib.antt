pub mod Promenades
