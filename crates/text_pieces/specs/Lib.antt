pub mod Keywords
pub mod Layouts
pub mod Leaves
pub mod Signs
pub mod Tokens
pub mod Forms
pub mod Frames
pub mod Pieces
