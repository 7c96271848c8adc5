mod ConstantForms
mod Around
mod StepLists
