pub mod DescribingLaws
