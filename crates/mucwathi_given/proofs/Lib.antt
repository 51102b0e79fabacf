mod Making
mod Refused
