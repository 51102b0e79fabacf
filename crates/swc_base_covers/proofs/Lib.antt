mod Contexts
mod Decided
mod Lists
mod Seeking
