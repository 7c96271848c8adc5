mod Done
mod Modifying
mod Given
