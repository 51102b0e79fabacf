pub mod Marks
mod Refusals
mod Made
