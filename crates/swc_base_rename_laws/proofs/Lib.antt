pub mod NormalFormStays
pub mod NormalFormNames
pub mod Outline
pub mod NormalFormDeclared
pub mod NormalFormModule
pub mod NormalFormFits
pub mod NormalFormTable
pub mod NormalFormWritten
pub mod NormalFormRows
pub mod NormalFormLike
pub mod NormalFormStripped
pub mod NormalFormViews
pub mod NormalFormSame
pub mod NormalFormPairs
pub mod Unchanged
pub mod OuterTexts
pub mod OuterTextsForms
pub mod OuterTextsNames
pub mod OuterTextsWritten
pub mod OuterTextsStay
pub mod WritableStaysShape
pub mod WritableStaysForms
pub mod WritableStaysNames
mod WritableStaysExports
mod WritableStaysLists
mod WritableStaysPatterns
mod WritableStaysStripped
mod WritableStaysHeads
pub mod WritableStaysParts
mod WritableStaysMembers
mod WritableStaysRows
mod WritableStaysStatements
pub mod WritableStays
pub mod Impossible
pub mod NormalFormSpans
