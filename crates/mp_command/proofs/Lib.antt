pub mod Asked
pub mod Behind
pub mod Came
pub mod Codes
pub mod Coming
pub mod GivingRows
mod Left
pub mod Leaving
pub mod Parted
pub mod Texts
pub mod TwoMoves
