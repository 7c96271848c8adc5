pub mod Cells
pub mod Copies
pub mod Known
pub mod Under
pub mod Accesses
