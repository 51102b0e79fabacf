mod Drawing
mod Showing
