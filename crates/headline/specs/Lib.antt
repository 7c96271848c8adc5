pub mod Program
pub mod Verdict
pub mod Headline
pub mod Status
pub mod Read
pub mod Exact
