-- Libraries below that crates above name through this one.
pub use Rattle.mucwathi_order
