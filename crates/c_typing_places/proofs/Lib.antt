pub mod ExprSites
pub mod FileSites
pub mod InitSites
pub mod NodeSites
pub mod RowSites
pub mod SettledSites
pub mod Spread
pub mod StmtSites
