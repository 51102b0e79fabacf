pub mod Assumptions
pub mod Features
pub mod Natives
pub mod Rising
