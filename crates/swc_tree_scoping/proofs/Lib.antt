pub mod Under
pub mod Children
pub mod Remarked
pub mod First
pub mod Program
pub mod BoundNames
pub mod PlaceRows
