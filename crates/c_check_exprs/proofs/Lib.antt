pub mod Results
pub mod Lines
pub mod Lists
pub mod Forms
pub mod Limits
pub mod Passing
pub mod Refusals
pub mod WordArguments
