-- Libraries below that crates above name through this one.
pub use Rattle.text_source.specs.Lower.text_checks
pub use Rattle.text_source
