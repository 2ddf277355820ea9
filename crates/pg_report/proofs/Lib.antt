pub mod DigitLaws
pub mod StepLaws
