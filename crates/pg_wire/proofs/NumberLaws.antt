-- The length of numbers one after the other, and of a body that ends with them.
use Rattle.std.proofs.Common.{◌≡◌, ℕ, ◌+◌, ◌*◌, List, [], ◌∷◌, ◌++◌, length, flat_map, refl, arith}
use Rattle.std.proofs.lemmas.List.{length-append}
use Rattle.pg_wire.specs.Bytes.{number32, ended}
use Rattle.pg_wire.specs.Frontend.{type_list}

pub numbers_length : (ns : List ℕ) → length (flat_map number32 ns) ≡ 4 * length ns
numbers_length [] = refl
numbers_length (n ∷ ns) = let rest = numbers_length ns in omega (arith, rest)

pub texts_length : (name sql types : List ℕ) → length name + length sql + 4 * length types + 4 ≡ length (ended name ++ ended sql ++ type_list types)
texts_length name sql types =
    let numbers = numbers_length types in
    let a = length-append (ended name ++ ended sql) (type_list types) in
    let b = length-append (ended name) (ended sql) in
    let c = length-append name (0 ∷ []) in
    let d = length-append sql (0 ∷ []) in
    omega (arith, numbers, a, b, c, d)
