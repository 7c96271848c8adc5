pub mod CallStand
pub mod InLists
pub mod SitedSame
pub mod SitedStand
