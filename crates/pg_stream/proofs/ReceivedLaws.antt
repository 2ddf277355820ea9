-- What a read leaves in the receive buffer.
use Rattle.std.proofs.Common.{◌≡◌, ℕ, ◌+◌, ◌≤◌, List, [], ◌∷◌, ◌++◌, take, length, refl, sym, ap, ◌∙◌, append_assoc, arith}
use Rattle.std.proofs.lemmas.List.{take-take, take-append-le}
use Rattle.bytes.proofs.Ranges.{take-append_past}
use Rattle.pg_stream.specs.declared.link.LinkRead.{LinkRead}
use Rattle.pg_stream.specs.declared.link.LinkRead.TheVariants as reads
use Rattle.pg_stream.specs.Links.{LinkSeen, Reads}
use Rattle.pg_stream.specs.Received.{size_of, given_of}

-- a read gave no more than was asked for
pub size_fits : (a b : LinkSeen) (answer : LinkRead) (into : List ℕ) → Reads a b answer into → size_of answer ≤ length into
size_fits a b (reads.Moved n) into r = r.gives.1
size_fits a b reads.NotYet into r = omega arith
size_fits a b reads.End into r = omega arith
size_fits a b reads.Failed into r = omega arith

pub given_is : (answer : LinkRead) (into : List ℕ) → take (size_of answer) into ≡ given_of answer into
given_is (reads.Moved n) into = refl
given_is reads.NotYet into = refl
given_is reads.End into = refl
given_is reads.Failed into = refl

-- the bytes that stood there, then what was written behind them, and of all that so much as a read gave
pub filled : (old all lent into rest behind : List ℕ) (n k : ℕ) (answer : LinkRead) → n ≡ length old → take (length old) all ≡ old → length all ≡ n + 8192 → lent ≡ all → length into ≡ 8192 → size_of answer ≤ length into → k ≡ size_of answer
    → take (n + k) (take (length all) ((take n lent ++ (into ++ rest)) ++ behind)) ≡ old ++ given_of answer into
filled old all lent into rest behind n k answer at front long same asked fits is =
    let within : k ≤ length into = omega (arith, fits, is) in
    let both : n + k ≤ length all = omega (arith, long, asked, within) in
    let start : take n lent ≡ old = ap (take n) same ∙ ap (λ (m : ℕ). take m all) at ∙ front in
    let parts : (take n lent ++ (into ++ rest)) ++ behind ≡ old ++ (into ++ (rest ++ behind)) =
    ap (λ (t : List ℕ). (t ++ (into ++ rest)) ++ behind) start ∙ append_assoc old (into ++ rest) behind ∙ ap (λ (t : List ℕ). old ++ t) (append_assoc into rest behind) in
    take-take (n + k) (length all) _ both ∙ ap (take (n + k)) parts ∙ take-append_past old (into ++ (rest ++ behind)) k (n + k) (ap (λ (m : ℕ). m + k) at)
    ∙ ap (λ (t : List ℕ). old ++ t) (take-append-le k into (rest ++ behind) within ∙ ap (λ (m : ℕ). take m into) is ∙ given_is answer into)
