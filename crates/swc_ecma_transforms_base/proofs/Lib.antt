mod Causes
mod Made
mod Sources
