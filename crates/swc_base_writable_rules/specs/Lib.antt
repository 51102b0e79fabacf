pub mod Rounds
pub mod Forms
pub mod Asks
pub mod Rules
pub mod Judged
