mod Free
mod Noted
pub mod Signed
mod Standing
mod LookedTexts
pub mod Unlooked
pub mod NamedSigns
pub mod Others
pub mod Ready
pub mod Rows
pub mod Unread
pub mod Writing
mod MarkingTexts
mod Beside
mod Joined
mod MappedNaming
mod Spotting
mod Telling
mod PagedNaming
mod Numbering
mod Blanks
mod ReportedTold
