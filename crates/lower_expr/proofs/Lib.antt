mod Arguments
mod Plain
mod Rowed
