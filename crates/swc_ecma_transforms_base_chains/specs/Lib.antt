pub mod Chained
pub mod Finished
pub mod Lent
pub mod Lower
