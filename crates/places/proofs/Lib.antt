pub mod Tailing
