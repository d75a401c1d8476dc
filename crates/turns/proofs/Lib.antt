pub mod Ints
pub mod Laws
pub mod Picks
pub mod AnyTurn
pub mod Degrees
pub mod Signs
