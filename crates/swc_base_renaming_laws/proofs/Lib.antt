pub mod Few
pub mod Hygienic
pub mod HygieneChanged
mod HygieneDeclared
mod Apart
mod BindableNames
pub mod Found
pub mod TopDeclared
pub mod ExportsApart
pub mod KeepsNormal
pub mod StaysWritable
mod HygieneFitting
mod HygieneAlike
mod StaysSettled
mod LabelsStay
mod Settled
pub mod Decided
pub mod Cleared
pub mod NewTexts
pub mod NewTextsSpans
pub mod Words
pub mod Kept
pub mod IdsSpans
pub mod IdsPrograms
pub mod Globals
pub mod Exported
mod Join
pub mod UnitsAlike
pub mod UnitsFitting
pub mod Roots
pub mod Units
pub mod Whole
pub mod Laws
pub mod Bounds
pub mod ErrorsPrograms
pub mod Listing
pub mod Errors
pub mod Same
pub mod Readers
mod Calm
mod Blocks
mod ReadersPairs
mod NewNames
mod Sequences
mod ReadersStripped
mod ReadersContexts
mod Relabelled
mod ContextsWritten
mod Contexts
mod Labels
mod Plain
mod Once
mod Told
mod Keeps
mod SettledCarried
pub mod Within
pub mod Meets
mod Complete
pub mod Sound
mod Paired
pub mod Placed
pub mod Less
mod Blocked
mod SettledPrograms
mod Expressions
mod Bodies
mod KeptMeetingsLooks
mod KeptMeetingsPairs
mod StrippedLooks
mod Lists
mod KeptMeetingsStripped
pub mod Mapped
pub mod Agreed
pub mod NamedMeetingsLooks
pub mod NamedMeetingsWritten
pub mod NamedMeetingsDeclared
pub mod Names
pub mod LabelledChanged
mod LabelledAlike
pub mod LabelledPrograms
mod Left
pub mod Texts
pub mod Meant
mod Loose
mod Around
mod Carried
