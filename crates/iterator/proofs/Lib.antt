mod Begun
mod Cases
mod Lifting
mod Parting
mod Settling
mod Turns
