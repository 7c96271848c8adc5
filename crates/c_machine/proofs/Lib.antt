mod Tested
mod Parts
mod Landing
mod Chained
mod Entered
mod Reached
mod Ready
