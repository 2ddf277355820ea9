-- Whether bytes are a nonce.
use Rattle.std.proofs.Common.{ℕ, ◌≡◌, List, Bool, true, false, length, nat_le, refl, arith}
use Rattle.std.specs.Prelude.{◌&&◌}
use Rattle.std.specs.List.{list_all}
use Rattle.std.proofs.lemmas.Bool.Decides.{nat_tests}
use Rattle.std.proofs.lemmas.List.Sums.{AllPass-from_list_all, list_all-from_AllPass}
use Rattle.pg_script.specs.Nonces.{IsNonce, is_printable, is_nonce}

both : (a b c : Bool) → ((a && b) && c) ≡ true → (a ≡ true) × (b ≡ true) × (c ≡ true)
both true true true e = (refl, refl, refl)
both false b c e = absurd cc
both true false c e = absurd cc
both true true false e = absurd cc

pub nonce_lawful : (bytes : List ℕ) → is_nonce bytes ≡ true → IsNonce bytes
nonce_lawful bytes e =
    let t = both (nat_le 64 (length bytes)) (nat_le (length bytes) 127) (list_all is_printable bytes) e in
    let long = t.0 in
    let short = t.1 in
    record { long = grind (arith, nat_tests, long); short = grind (arith, nat_tests, short); printable = AllPass-from_list_all is_printable bytes t.2 }

pub nonce_passes : (bytes : List ℕ) → IsNonce bytes → is_nonce bytes ≡ true
nonce_passes bytes is =
    let long : nat_le 64 (length bytes) ≡ true = grind (arith, nat_tests, is.long) in
    let short : nat_le (length bytes) 127 ≡ true = grind (arith, nat_tests, is.short) in
    rw (long, short) (list_all-from_AllPass is_printable bytes is.printable)
