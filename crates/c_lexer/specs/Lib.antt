pub mod Spelling
pub mod Cut
pub mod Uncut
pub mod Piece
pub mod Stretch
