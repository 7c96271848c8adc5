pub mod AlarmsOf
pub mod Carried
pub mod Exact
pub mod ExactReport
