mod Main
mod Ends
mod Kept
mod Told
mod Opened
mod Values
