pub mod Places
mod Numbered
mod Begun
mod Finding
mod Stepped
mod Failures
mod Found
