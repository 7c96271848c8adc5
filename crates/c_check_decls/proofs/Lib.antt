pub mod Agreement
pub mod Alone
pub mod Behind
pub mod Changing
pub mod FileForms
pub mod FunctionForms
pub mod Lists
pub mod ParameterForms
