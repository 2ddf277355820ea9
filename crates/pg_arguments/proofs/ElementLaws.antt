-- The elements of an array, one after the other.
use Rattle.std.proofs.Common.{◌≡◌, ℕ, suc, ◌<◌, ◌≤◌, List, [], ◌∷◌, ◌++◌, length, Option, Some, None, refl, sym, ap, ◌∙◌, arith}
use Rattle.std.proofs.lemmas.Bool.{le-ltb, lt-ltb}
use Rattle.pg_wire.specs.declared.error.Error.{Error}
use Rattle.pg_wire.specs.declared.error.Error.TheVariants as errors
use Rattle.pg_arguments.specs.declared.encode.IsNull.TheVariants as nulls
use Rattle.pg_arguments.specs.Types.{TypeParts}
use Rattle.pg_arguments.specs.Encoded.{Encoded, joined, wire, wires}
use Rattle.pg_arguments.specs.Encoding.{Encoding, Refused, value_of, Extends, Appends, AddsValue, RefusesArgument, RefusesEncoding}
use Rattle.pg_arguments.specs.Arrays.{array_head, array_encoding, more_elements, elements, AddsElements, RefusesElements}
use Rattle.pg_arguments.proofs.JoinLaws.{joined-assoc, joined_nil}
use Rattle.pg_arguments.proofs.AddLaws.{extends_by}
use Rattle.std.proofs.lemmas.Option.{same_Some}
use Rattle.pg_arguments.proofs.ArgumentLaws.{wires-push}

-- the elements with one more behind them
abbrev pub one_more : Option (List (Option Encoded)) → Option (Option Encoded) → Option (List (Option Encoded))
one_more None v = None
one_more (Some vs) None = None
one_more (Some vs) (Some v) = Some (vs ++ v ∷ [])

one_behind : (a v : Option (Option Encoded)) (vs : Option (List (Option Encoded))) → more_elements a (one_more vs v) ≡ one_more (more_elements a vs) v
one_behind None v vs = refl
one_behind (Some a) v None = refl
one_behind (Some a) None (Some vs) = refl
one_behind (Some a) (Some v) (Some vs) = refl

single_element : (v : Option (Option Encoded)) → more_elements v (Some []) ≡ one_more (Some []) v
single_element None = refl
single_element (Some v) = refl

pub elements_push : {X : Type 0} (encoding : X → Encoding) (xs : List X) (x : X) → elements encoding (xs ++ x ∷ []) ≡ one_more (elements encoding xs) (value_of (encoding x))
elements_push encoding [] x = single_element (value_of (encoding x))
elements_push encoding (y ∷ xs) x = ap (more_elements (value_of (encoding y))) (elements_push encoding xs x) ∙ one_behind (value_of (encoding y)) (value_of (encoding x)) (elements encoding xs)

adds_more : (vs : Option (List (Option Encoded))) (v : Option (Option Encoded)) (old mid new : Encoded) → AddsElements vs old mid → AddsValue v mid new → AddsElements (one_more vs v) old new
adds_more None v old mid new a b = absurd a
adds_more (Some vs) None old mid new a b = absurd b
adds_more (Some vs) (Some v) old mid new a b = b.0 ∙ ap (λ (x : Encoded). joined x (wire v)) a ∙ joined-assoc old (wires vs) (wire v) ∙ ap (joined old) (sym (wires-push vs v))

pub adds_next : {X : Type 0} (encoding : X → Encoding) (xs : List X) (x : X) (old mid new : Encoded) → AddsElements (elements encoding xs) old mid → AddsValue (value_of (encoding x)) mid new
    → AddsElements (elements encoding (xs ++ x ∷ [])) old new
adds_next encoding xs x old mid new a b = rw (elements_push encoding xs x) (adds_more (elements encoding xs) (value_of (encoding x)) old mid new a b)

pub adds_none : (old : Encoded) → AddsElements (Some []) old old
adds_none old = sym (joined_nil old)

pub elements_extend : (vs : Option (List (Option Encoded))) (old new : Encoded) → AddsElements vs old new → Extends old new
elements_extend None old new a = absurd a
elements_extend (Some vs) old new a = extends_by old new (wires vs) a

-- an element without a place among values leaves none to the array
none_more : (a : Option (Option Encoded)) → more_elements a None ≡ None
none_more None = refl
none_more (Some a) = refl

refused_behind : {X : Type 0} (encoding : X → Encoding) (xs : List X) (x : X) (ys : List X) → value_of (encoding x) ≡ None → elements encoding (xs ++ x ∷ ys) ≡ None
refused_behind encoding [] x ys e = rw e refl
refused_behind encoding (y ∷ xs) x ys e = ap (more_elements (value_of (encoding y))) (refused_behind encoding xs x ys e) ∙ none_more (value_of (encoding y))

pub element_refuses : {X : Type 0} (encoding : X → Encoding) (all xs : List X) (x : X) (ys : List X) (place : ℕ) (e : Error) → all ≡ xs ++ x ∷ ys → RefusesArgument place (value_of (encoding x)) e → RefusesElements (elements encoding all) e
element_refuses encoding all xs x ys place errors.OutOfMemory at r = tt
element_refuses encoding all xs x ys place (errors.Encode index) at r = rw at (refused_behind encoding xs x ys r.1)
element_refuses encoding all xs x ys place _ at r = absurd r

-- ---- the whole array

more_is : (v : Option (Option Encoded)) (rest : Option (List (Option Encoded))) (vs : List (Option Encoded)) → more_elements v rest ≡ Some vs
    → (a : Option Encoded) × (more : List (Option Encoded)) × (rest ≡ Some more) × (vs ≡ a ∷ more)
more_is None rest vs e = absurd cc
more_is (Some v) None vs e = absurd cc
more_is (Some v) (Some more) vs e = (v, more, refl, sym (same_Some (v ∷ more) vs e))

pub length_elements : {X : Type 0} (encoding : X → Encoding) (xs : List X) (vs : List (Option Encoded)) → elements encoding xs ≡ Some vs → length vs ≡ length xs
length_elements {X} encoding [] vs e = ap length (sym (same_Some [] vs e))
length_elements {X} encoding (x ∷ xs) vs e =
    let m = more_is (value_of (encoding x)) (elements encoding xs) vs e in
    ap length m.3 ∙ ap suc (length_elements encoding xs m.1 m.2)

too_many_in : (of : TypeParts) (vs : Option (List (Option Encoded))) (n : ℕ) → 2147483647 < n → ((ws : List (Option Encoded)) → vs ≡ Some ws → length ws ≡ n) → array_encoding of vs ≡ Refused
too_many_in of None n lt h = refl
too_many_in of (Some vs) n lt h = rw (lt-ltb 2147483647 (length vs) (omega (arith, lt, h vs refl))) refl

encodes_in : (of : TypeParts) (vs : Option (List (Option Encoded))) (n : ℕ) (old mid new : Encoded) → n ≤ 2147483647 → mid ≡ joined old (array_head of n) → AddsElements vs mid new
    → ((ws : List (Option Encoded)) → vs ≡ Some ws → length ws ≡ n) → Appends (array_encoding of vs) nulls.No old new
encodes_in of None n old mid new le m a h = absurd a
encodes_in of (Some vs) n old mid new le m a h =
    rw (le-ltb 2147483647 (length vs) (omega (arith, le, h vs refl)), h vs refl) (a ∙ ap (λ (x : Encoded). joined x (wires vs)) m ∙ joined-assoc old (array_head of n) (wires vs))

pub too_many : {X : Type 0} (of : TypeParts) (encoding : X → Encoding) (xs : List X) → 2147483647 < length xs → array_encoding of (elements encoding xs) ≡ Refused
too_many of encoding xs lt = too_many_in of (elements encoding xs) (length xs) lt (λ vs e. length_elements encoding xs vs e)

pub encodes_array : {X : Type 0} (of : TypeParts) (encoding : X → Encoding) (xs : List X) (old mid new : Encoded) → length xs ≤ 2147483647 → mid ≡ joined old (array_head of (length xs))
    → AddsElements (elements encoding xs) mid new → Appends (array_encoding of (elements encoding xs)) nulls.No old new
encodes_array of encoding xs old mid new le m a = encodes_in of (elements encoding xs) (length xs) old mid new le m a (λ vs e. length_elements encoding xs vs e)

pub no_element_no_array : (of : TypeParts) (vs : Option (List (Option Encoded))) (e : Error) → RefusesElements vs e → RefusesEncoding (array_encoding of vs) e
no_element_no_array of vs errors.OutOfMemory r = tt
no_element_no_array of vs (errors.Encode index) r = rw r refl
no_element_no_array of vs _ r = absurd r
