pub mod Tasked
