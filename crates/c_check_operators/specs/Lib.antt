pub mod ArithmeticViews
pub mod OperandViews
pub mod StoreViews
pub mod Forms
