pub mod Paying
