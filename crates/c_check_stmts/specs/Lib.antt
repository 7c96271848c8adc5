pub mod Forms
pub mod Views
pub mod CaseLaws
pub mod PartForms
