-- Libraries below that crates above name through this one.
pub use Rattle.text_checks
