pub mod Cells
pub mod Numeral
pub mod Blanks
pub mod Boolean
