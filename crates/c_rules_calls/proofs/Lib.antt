mod Closed
pub mod Counts
mod Deep
mod Falling
pub mod Firsts
pub mod Forms
pub mod GotoForms
mod Inlining
mod Known
mod Left
mod Lists
pub mod Orders
pub mod Stays
mod Steps
mod Ways
