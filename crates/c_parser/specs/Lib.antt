pub mod Refusals
pub mod Answers
pub mod HeadKinds
pub mod SimpleKinds
