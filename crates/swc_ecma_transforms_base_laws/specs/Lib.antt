pub mod Finished
pub mod Sources
pub mod Headline
pub mod Renamers
pub mod Settled
pub mod SourceNames
pub mod KeptForms
pub mod Lower
