pub mod Units
pub mod Values
pub mod RawBytes
pub mod Plain
