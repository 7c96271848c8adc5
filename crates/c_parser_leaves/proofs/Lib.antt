pub mod Boxes
pub mod DeclaratorSteps
pub mod EndSteps
pub mod ExprSteps
pub mod Listings
pub mod Shorter
pub mod TagSteps
