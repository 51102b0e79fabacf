mod Kept
mod Texts
mod Tokens
