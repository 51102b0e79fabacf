mod Heads
mod Starts
