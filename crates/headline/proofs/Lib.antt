pub mod VerdictLemmas
pub mod HeadlineLemmas
pub mod ReadLemmas
