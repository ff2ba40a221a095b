pub mod Remembering
