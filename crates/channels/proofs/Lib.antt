pub mod HeardLemmas
pub mod Inside
