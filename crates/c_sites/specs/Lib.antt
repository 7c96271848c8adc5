pub mod SitedChecks
pub mod SitedLaws
pub mod Sites
