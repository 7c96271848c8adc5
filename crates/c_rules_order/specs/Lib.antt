pub mod Closed
pub mod Earlier
pub mod Firsts
pub mod Gathered
pub mod Made
pub mod Sides
