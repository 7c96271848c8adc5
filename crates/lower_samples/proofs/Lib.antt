mod Failures
mod Jumps
mod Calls
mod Initials
mod Values
