pub mod XorLemmas
pub mod BlockLemmas
pub mod NonceLemmas
pub mod CommaLemmas
pub mod PlainLemmas
pub mod ServerFirstLaws
pub mod VerifierLaws
pub mod SignatureLaws
