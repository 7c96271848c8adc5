pub mod Words
pub mod TypeText
pub mod TypeRefusals
pub mod RuleRefusals
pub mod RuleText
pub mod Refusal
pub mod RefusalText
