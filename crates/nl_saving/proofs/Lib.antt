mod SideNamesFit
pub mod WrittenParts
pub mod UnitBounds
