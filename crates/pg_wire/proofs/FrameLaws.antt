-- A frame is its tag, its length and its body.
use Rattle.std.proofs.Common.{◌≡◌, ℕ, ◌+◌, List, ◌∷◌, ◌++◌, length, codes, append_assoc, ap, ◌∙◌}
use Rattle.pg_wire.specs.Bytes.{number32, ended}
use Rattle.pg_wire.specs.Frame.{bytes_of}
use Rattle.pg_wire.specs.Frontend.{sasl_first}

regroup : (a b c d e : List ℕ) → a ++ b ++ c ++ d ++ e ≡ a ++ (b ++ (c ++ d ++ e))
regroup a b c d e = simp append_assoc

-- a first response behind the name of its mechanism
pub framed_first : (out new response : List ℕ) (size : ℕ) → size ≡ length (sasl_first response).body + 4 → new ≡ out ++ (112 ∷ number32 size) ++ ended (codes "SCRAM-SHA-256") ++ number32 (length response) ++ response → new ≡ out ++ bytes_of (sasl_first response)
framed_first out new response size fits e =
    e ∙ regroup out (112 ∷ number32 size) (ended (codes "SCRAM-SHA-256")) (number32 (length response)) response
    ∙ ap (λ (n : ℕ). out ++ ((112 ∷ number32 n) ++ (sasl_first response).body)) fits
