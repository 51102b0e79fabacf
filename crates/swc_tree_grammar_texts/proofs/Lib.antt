pub mod Cleared
pub mod ClearedStripped
pub mod ClearedSound
pub mod ClearedSame
pub mod Inner
pub mod ClearedWritten
pub mod ClearedExports
pub mod TextsLaws
