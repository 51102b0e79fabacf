pub mod Rows
mod GrammarRows
mod WritableRows
mod FormRows
mod SameRows
pub mod Trees
mod FixerRows
mod ReaderRows
mod StepRows
mod FixedRows
pub mod Heads
pub mod Begins
pub mod Levelled
pub mod Callees
pub mod Settled
pub mod Levels
pub mod Every
pub mod Derived
pub mod DerivedRows
pub mod Adds
pub mod Blocked
