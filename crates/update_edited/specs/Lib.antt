pub mod Editing
