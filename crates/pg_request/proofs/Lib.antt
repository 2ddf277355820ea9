pub mod CrossingLaws
pub mod TextLaws
pub mod ValueLaws
