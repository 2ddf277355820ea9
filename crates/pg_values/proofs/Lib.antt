pub mod NumeralLaws
pub mod ReadLaws
pub mod ArrayLaws
pub mod TextLoops
pub mod TextLaws
