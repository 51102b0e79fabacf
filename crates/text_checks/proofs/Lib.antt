pub mod Fitting
pub mod Sought
pub mod SpellingFields
mod PinnedFields
pub mod Read
mod Steps
pub mod Told
mod Sound
mod Derived
mod Worded
mod Node
mod Bare
