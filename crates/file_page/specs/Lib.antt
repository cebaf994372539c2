pub mod Roadfile
