pub mod Ext
pub mod Valuation
