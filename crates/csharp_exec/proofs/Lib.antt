mod Begun
mod Calls
mod Fuel
mod Turns
mod Rows
mod Variants
