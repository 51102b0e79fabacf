pub mod Debugger
