pub mod Cells
pub mod Search
pub mod Levels
pub mod InOrder
pub mod LabelsFaultTurns
pub mod RowsFaultTurns
