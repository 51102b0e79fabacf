mod Blanking
mod Cutting
mod Signing
