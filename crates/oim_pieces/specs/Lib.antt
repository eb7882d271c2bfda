pub mod PiecesLeft
pub mod state
