-- Exclusive or, byte by byte, in the order in which a loop does it.
use Rattle.std.proofs.Common.{◌≡◌, ℕ, ◌+◌, ◌<◌, ◌≤◌, List, ◌++◌, length, take, drop, get_or, set, add-one, refl, arith}
use Rattle.std.specs.Prelude.{bit_xor}
use Rattle.std.proofs.lemmas.List.{take_more_set, drop_all, take_all, append-nil, append_assoc}
use Rattle.std.proofs.Math.Seq.{drop-cons}
use Rattle.std.proofs.lemmas.Grind.{common_steps}
use Rattle.pg_auth.specs.Hmac.{xor_bytes}

drop-set-suc : (l : List ℕ) (i v : ℕ) → drop (i + 1) (set l i v) ≡ drop (i + 1) l
drop-set-suc l i v = grind (arith, common_steps)

pub xor_step : (left right : List ℕ) (i v : ℕ) → i < length left → i < length right → v ≡ bit_xor (get_or left i 0) (get_or right i 0)
    → take (i + 1) (set left i v) ++ xor_bytes (drop (i + 1) (set left i v)) (drop (i + 1) right) ≡ take i left ++ xor_bytes (drop i left) (drop i right)
unfolding xor_bytes
xor_step left right i v hl hr e =
    rw (take_more_set left i v hl, drop-set-suc left i v, add-one, drop-cons left i 0 hl, drop-cons right i 0 hr, append_assoc, e) refl

pub xor_end : (left right : List ℕ) (n : ℕ) → length left ≤ n → take n left ++ xor_bytes (drop n left) (drop n right) ≡ left
unfolding xor_bytes
xor_end left right n e = rw (drop_all n left e, take_all n left e) (append-nil left)
