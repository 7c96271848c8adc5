pub mod Constants
pub mod ConstantSteps
