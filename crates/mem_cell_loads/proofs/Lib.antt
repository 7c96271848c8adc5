pub mod Bits
pub mod Cells
pub mod Marked
pub mod Readings
pub mod Leads
pub mod Behind
pub mod Made
