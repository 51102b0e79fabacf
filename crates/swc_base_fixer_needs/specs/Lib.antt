pub mod Sites
pub mod Reasons
pub mod Reads
pub mod Keys
pub mod Laws
