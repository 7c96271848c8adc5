mod Clashing
mod Earliest
mod Functions
mod Mains
mod Members
mod Outcomes
mod Planning
mod Stages
