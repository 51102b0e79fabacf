pub mod FinishingKept
pub mod FinishingSources
mod Promised
mod TopNames
mod Leaves
mod Unread
mod Clean
mod Chained
mod Apart
pub mod Caught
pub mod Variants
pub mod SourceNamesSources
pub mod Meanings
mod Free
mod SourceNamesKept
mod Same
mod Declared
mod Forms
