pub mod Found
pub mod Named
pub mod ReportText
pub mod Sources
pub mod Told
