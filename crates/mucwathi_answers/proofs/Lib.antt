mod Worked
mod Judged
mod Looked
mod Endings
mod Given
