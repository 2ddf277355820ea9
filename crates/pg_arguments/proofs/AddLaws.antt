-- A value added behind its length.
use Rattle.std.proofs.Common.{◌≡◌, ℕ, ◌+◌, ◌-◌, ◌<◌, ◌≤◌, List, [], ◌∷◌, ◌++◌, length, take, map, Option, Some, None, refl, sym, ap, subst, ◌∙◌, arith}
use Rattle.std.proofs.lemmas.List.{length-append, take-take, take_at, take_all}
use Rattle.std.proofs.lemmas.Bool.{le-ltb, lt-ltb}
use Rattle.pg_wire.specs.Bytes.{number32}
use Rattle.pg_arguments.specs.Encoded.{Encoded, moved, plain, joined, counted, wire, overwritten, cut_off, AreInside}
use Rattle.pg_arguments.specs.Encoding.{Encoding, Refused, Null, Image, value_of, Extends, Appends, AddsValue}
use Rattle.pg_arguments.specs.declared.encode.IsNull.{IsNull}
use Rattle.pg_arguments.specs.declared.encode.IsNull.TheVariants as nulls
use Rattle.pg_arguments.proofs.JoinLaws.{joined-assoc, rewritten, inside_part}

pub extends_joined : (old more : Encoded) → Extends old (joined old more)
extends_joined old more = (take_at old.bytes more.bytes _ refl, take_at old.holes (map (moved (length old.bytes)) more.holes) _ refl)

pub extends_behind : (old head mid new : Encoded) → mid ≡ joined old head → Extends mid new → Extends old new
extends_behind old head mid new m e =
    let bytes : take (length old.bytes) new.bytes ≡ old.bytes =
    sym (take-take (length old.bytes) (length mid.bytes) new.bytes (rw m (omega (arith, length-append old.bytes head.bytes)))) ∙ ap (take (length old.bytes)) e.0 ∙ rw m (extends_joined old head).0 in
    let holes : take (length old.holes) new.holes ≡ old.holes =
    sym (take-take (length old.holes) (length mid.holes) new.holes (rw m (omega (arith, length-append old.holes (map (moved (length old.bytes)) head.holes))))) ∙ ap (take (length old.holes)) e.1 ∙ rw m (extends_joined old head).1 in
    (bytes, holes)

abbrev pub minus_one : List ℕ
minus_one = 255 ∷ 255 ∷ 255 ∷ 255 ∷ []

abbrev pub with_length : Encoded → ℕ → Encoded → Encoded
with_length old n new = record { bytes = overwritten (length old.bytes) (number32 n) new.bytes; holes = new.holes; values = old.values + 1 }

-- the length is written once the encoding is there
behind_length : (old e : Encoded) → with_length old (length e.bytes) (joined (joined old (plain minus_one)) e) ≡ joined old (wire (Some e))
behind_length old e = ap (counted (old.values + 1)) (rewritten old e minus_one (number32 (length e.bytes)) refl ∙ joined-assoc old (plain (number32 (length e.bytes))) e)

length_behind : (old e : Encoded) → length (joined (joined old (plain minus_one)) e).bytes - length old.bytes - 4 ≡ length e.bytes
length_behind old e = omega (arith, length-append (old.bytes ++ minus_one) e.bytes, length-append old.bytes minus_one)

pub adds_image : (encoding : Encoding) (old mid new : Encoded) (n : ℕ) → mid ≡ joined old (plain minus_one) → Appends encoding nulls.No mid new
    → length new.bytes - length old.bytes - 4 ≡ n → n ≤ 2147483647 → AreInside new → AddsValue (value_of encoding) old (with_length old n new)
adds_image Refused old mid new n m a size le inside = absurd a
adds_image Null old mid new n m a size le inside = absurd a
adds_image (Image e) old mid new n m a size le inside =
    let made : new ≡ joined (joined old (plain minus_one)) e = a ∙ ap (λ (x : Encoded). joined x e) m in
    let long : n ≡ length e.bytes = sym size ∙ ap (λ (x : Encoded). length x.bytes - length old.bytes - 4) made ∙ length_behind old e in
    let short : length e.bytes ≤ 2147483647 = omega (arith, le, long) in
    rw (le-ltb 2147483647 (length e.bytes) short, made, long) (behind_length old e, (short, inside_part (joined old (plain minus_one)) e (subst AreInside made inside)))

pub adds_null : (encoding : Encoding) (old mid new : Encoded) → mid ≡ joined old (plain minus_one) → Appends encoding nulls.Yes mid new → AddsValue (value_of encoding) old (counted (old.values + 1) new)
adds_null Refused old mid new m a = absurd a
adds_null Null old mid new m a = (ap (counted (old.values + 1)) (a ∙ m), tt)
adds_null (Image e) old mid new m a = absurd a

pub too_long : (encoding : Encoding) (old mid new : Encoded) (n : ℕ) → mid ≡ joined old (plain minus_one) → Appends encoding nulls.No mid new
    → length new.bytes - length old.bytes - 4 ≡ n → 2147483647 < n → value_of encoding ≡ None
too_long Refused old mid new n m a size lt = absurd a
too_long Null old mid new n m a size lt = absurd a
too_long (Image e) old mid new n m a size lt =
    let made : new ≡ joined (joined old (plain minus_one)) e = a ∙ ap (λ (x : Encoded). joined x e) m in
    let long : n ≡ length e.bytes = sym size ∙ ap (λ (x : Encoded). length x.bytes - length old.bytes - 4) made ∙ length_behind old e in
    rw (lt-ltb 2147483647 (length e.bytes) (omega (arith, lt, long))) refl

pub extends_same : (old new : Encoded) → new ≡ old → Extends old new
extends_same old new e = rw e (take_all _ old.bytes (omega arith), take_all _ old.holes (omega arith))

pub extends_by : (old new more : Encoded) → new ≡ joined old more → Extends old new
extends_by old new more e = rw e (extends_joined old more)

pub appends_extends : (encoding : Encoding) (n : IsNull) (old new : Encoded) → Appends encoding n old new → Extends old new
appends_extends (Image e) nulls.No old new a = extends_by old new e a
appends_extends (Image e) nulls.Yes old new a = absurd a
appends_extends Null nulls.Yes old new a = extends_same old new a
appends_extends Null nulls.No old new a = absurd a
appends_extends Refused nulls.Yes old new a = absurd a
appends_extends Refused nulls.No old new a = absurd a

pub adds_extends : (value : Option (Option Encoded)) (old new : Encoded) → AddsValue value old new → Extends old new
adds_extends None old new a = absurd a
adds_extends (Some v) old new a = extends_by old new (wire v) a.0

pub cut_is_old : (old new : Encoded) → Extends old new → cut_off (length old.bytes) (length old.holes) old.values new ≡ old
cut_is_old old new e = rw (e.0, e.1) refl
