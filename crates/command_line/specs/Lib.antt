pub mod Asking
pub mod Items
pub mod ListParts
pub mod Options
pub mod Plans
pub mod SizeLists
