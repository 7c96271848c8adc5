pub mod TypeWords
pub mod Told
pub mod RuleLemmas
