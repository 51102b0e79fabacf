mod Found
mod Rowed
mod Rules
