pub mod KindColumns
pub mod Numbered
pub mod TokenKinds
