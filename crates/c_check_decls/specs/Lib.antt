pub mod Changes
pub mod DeclaredViews
pub mod Entities
pub mod Forms
pub mod MadeViews
