mod Kept
mod Streams
