-- What is read of a body with a list decides which message it says, or that it says none.
use Rattle.std.proofs.Common.{◌≡◌, ℕ, ℤ, ◌-◌, ◌<◌, ◌≤◌, ◌^◌, true, false, cond, ◌&&◌, eqb, ltb, leb, List, [], ◌∷◌, ◌++◌, length, take, drop, Option, Some, None, inl, inr, refl, sym, ap, subst, ◌∙◌, append_assoc, arith, flat_map, eqb-true, ne_eqb}
use Rattle.std.specs.Prelude.{FitsSigned}
use Rattle.std.specs.Int.{w8, w16, cast_unsigned, cast_signed}
use Rattle.std.specs.List.{AllByRecursion}
use Rattle.std.proofs.lemmas.Bool.{ltb-true, leb-true, lt-ltb, le-leb}
use Rattle.std.proofs.lemmas.List.{length-append, length-take-le, take-append-drop, take_at, drop_at}
use Rattle.std.proofs.lemmas.Int.{ints, to_z-of_z, of_z-to_z}
use Rattle.pg_wire.specs.Bytes.{number16, number32, signed16, value, AreBytes}
use Rattle.pg_wire.specs.Frontend.{type_list, FitsValue}
use Rattle.pg_wire.specs.Backend.{BackendMessage, backend_frame, HasBackendFrame, Values, row_bytes, ParameterDescription, DataRow, CopyInResponse, CopyOutResponse}
use Rattle.pg_wire.specs.Decoding.{Says}
use Rattle.pg_wire.specs.Reading.{Reader, byte_at, number32_at, signed16_at, value_at, counted_at, then_at, whole}
use Rattle.pg_wire.proofs.ReaderLaws.{bind_some, IsExact, byte_exact, number32_exact, signed16_exact, counted_exact, then_exact}
use Rattle.pg_wire.proofs.MessageLaws.{IsKind, says, says_none}
use Rattle.pg_wire.proofs.Tests.{both_true, chosen}
use Rattle.std.proofs.lemmas.Option.{cond_some, same_Some}

-- ---- ParameterDescription

abbrev AreTypes : List ℕ → Type 0
AreTypes types = (length types < 2 ^ 16) × AllByRecursion (λ n. n < 2 ^ 32) types

types_only : (m : BackendMessage) → HasBackendFrame m → (backend_frame m).tag ≡ 116 → (x : List ℕ) × AreTypes x × ((backend_frame m).body ≡ type_list x)
types_only (ParameterDescription t) h e = (t, h, refl)
types_only _ h e = absurd (omega (arith, e))

types_kind : IsKind AreTypes type_list 116 ParameterDescription
types_kind = record { fits = λ x h. h; frame = λ x _. refl; only = types_only }

types_exact : IsExact AreTypes type_list (counted_at number32_at)
types_exact = counted_exact (λ n. n < 2 ^ 32) number32 number32_at number32_exact

pub types_says : (body types : List ℕ) → AreBytes body → whole (counted_at number32_at) body ≡ Some types → Says 116 body (ParameterDescription types)
types_says body types bytes e = says AreTypes type_list (counted_at number32_at) 116 ParameterDescription types_exact types_kind body types bytes e

pub types_none : (body : List ℕ) → whole (counted_at number32_at) body ≡ None → (m : BackendMessage) → Says 116 body m → ⊥
types_none body e = says_none AreTypes type_list (counted_at number32_at) 116 ParameterDescription types_exact types_kind body e

-- ---- DataRow

abbrev value_of : Option (List ℕ) → List ℕ → Option (List ℕ) × List ℕ
value_of v rest = (v, rest)

some_parts : (bytes number rest : List ℕ) (n : ℕ) → bytes ≡ number32 n ++ rest → n ≤ length rest → bytes ≡ value (Some (take n rest)) ++ drop n rest
some_parts bytes number rest n e le =
    let len : length (take n rest) ≡ n = length-take-le n rest le in
    e ∙ ap (λ (u : List ℕ). number32 n ++ u) (sym (take-append-drop n rest))
    ∙ sym (append_assoc (number32 n) (take n rest) (drop n rest))
    ∙ ap (λ (k : ℕ). (number32 k ++ take n rest) ++ drop n rest) (sym len)

value_takes : (bytes : List ℕ) (x : Option (List ℕ) × List ℕ) → AreBytes bytes → value_at bytes ≡ Some x → FitsValue x.0 × (bytes ≡ value x.0 ++ x.1)
unfolding value_at
value_takes bytes x h e =
    let a = bind_some (number32_at bytes) (λ n. cond (eqb n.0 (2 ^ 32 - 1)) (Some (value_of None n.1)) (cond (ltb n.0 (2 ^ 31) && leb n.0 (length n.1)) (Some (value_of (Some (take n.0 n.1)) (drop n.0 n.1))) None)) x e in
    let t = number32_exact.takes bytes a.0 h a.1 in
    elim (chosen (eqb a.0.0 (2 ^ 32 - 1)) (Some (value_of None a.0.1)) _ (Some x) a.2) [
      | inl p ↦
          let full : a.0.0 ≡ 2 ^ 32 - 1 = eqb-true _ _ p.0 in
          subst (λ (y : Option (List ℕ) × List ℕ). FitsValue y.0 × (bytes ≡ value y.0 ++ y.1)) (same_Some (value_of None a.0.1) x p.1) (tt, t.1 ∙ ap (λ (n : ℕ). number32 n ++ a.0.1) full)
      | inr p ↦
          let g = cond_some (ltb a.0.0 (2 ^ 31) && leb a.0.0 (length a.0.1)) (value_of (Some (take a.0.0 a.0.1)) (drop a.0.0 a.0.1)) x p.1 in
          let tests = both_true _ _ g.0 in
          let below : a.0.0 < 2 ^ 31 = ltb-true _ _ tests.0 in
          let room : a.0.0 ≤ length a.0.1 = leb-true _ _ tests.1 in
          let len : length (take a.0.0 a.0.1) ≡ a.0.0 = length-take-le a.0.0 a.0.1 room in
          subst (λ (y : Option (List ℕ) × List ℕ). FitsValue y.0 × (bytes ≡ value y.0 ++ y.1)) g.1
          (omega (arith, len, below), some_parts bytes [] a.0.1 a.0.0 t.1 room)
    ]

value_again : (v : Option (List ℕ)) (rest : List ℕ) → FitsValue v → value_at (value v ++ rest) ≡ Some (v, rest)
unfolding value_at
value_again None rest h = rw (number32_exact.again (2 ^ 32 - 1) rest (omega arith)) refl
value_again (Some bs) rest h =
    let wide : length bs < 2 ^ 32 = omega (arith, h) in
    let other : eqb (length bs) (2 ^ 32 - 1) ≡ false = ne_eqb _ _ (λ e. absurd (omega (arith, e, h))) in
    let below : ltb (length bs) (2 ^ 31) ≡ true = lt-ltb _ _ h in
    let room : leb (length bs) (length (bs ++ rest)) ≡ true = le-leb _ _ (omega (arith, length-append bs rest)) in
    ap value_at (append_assoc (number32 (length bs)) bs rest)
    ∙ rw (number32_exact.again (length bs) (bs ++ rest) wide, other, below, room, take_at bs rest (length bs) refl, drop_at bs rest (length bs) refl) refl

pub value_exact : IsExact FitsValue value value_at
value_exact = record { takes = value_takes; again = value_again }

abbrev AreValues : Values → Type 0
AreValues values = (length values < 2 ^ 16) × AllByRecursion FitsValue values

row_only : (m : BackendMessage) → HasBackendFrame m → (backend_frame m).tag ≡ 68 → (x : Values) × AreValues x × ((backend_frame m).body ≡ row_bytes x)
row_only (DataRow v) h e = (v, h, refl)
row_only _ h e = absurd (omega (arith, e))

row_kind : IsKind AreValues row_bytes 68 DataRow
row_kind = record { fits = λ x h. h; frame = λ x _. refl; only = row_only }

row_exact : IsExact AreValues row_bytes (counted_at value_at)
row_exact = counted_exact FitsValue value value_at value_exact

pub row_says : (body : List ℕ) (values : Values) → AreBytes body → whole (counted_at value_at) body ≡ Some values → Says 68 body (DataRow values)
row_says body values bytes e = says AreValues row_bytes (counted_at value_at) 68 DataRow row_exact row_kind body values bytes e

pub row_none : (body : List ℕ) → whole (counted_at value_at) body ≡ None → (m : BackendMessage) → Says 68 body m → ⊥
row_none body e = says_none AreValues row_bytes (counted_at value_at) 68 DataRow row_exact row_kind body e

-- ---- copy responses, whose format is a signed byte

abbrev Copied : Type 0
Copied = ℕ × List ℤ

abbrev AreCodes : List ℤ → Type 0
AreCodes codes = (length codes < 2 ^ 16) × AllByRecursion (FitsSigned w16) codes

abbrev codes_bytes : List ℤ → List ℕ
codes_bytes codes = number16 (length codes) ++ flat_map signed16 codes

abbrev IsCopied : Copied → Type 0
IsCopied x = (x.0 < 256) × AreCodes x.1

abbrev copied_bytes : Copied → List ℕ
copied_bytes x = (x.0 ∷ []) ++ codes_bytes x.1

abbrev copied_at : Reader Copied
copied_at = then_at byte_at (counted_at signed16_at)

copied_exact : IsExact IsCopied copied_bytes copied_at
copied_exact = then_exact (λ b. b < 256) (λ b. b ∷ []) byte_at AreCodes codes_bytes (counted_at signed16_at) byte_exact (counted_exact (FitsSigned w16) signed16 signed16_at signed16_exact)

signed_fits8 : (n : ℕ) → n < 256 → FitsSigned w8 (cast_signed w8 n)
signed_fits8 n h = omega (arith, ints)

signed_bound8 : (z : ℤ) → FitsSigned w8 z → cast_unsigned w8 z < 256
signed_bound8 z h = omega (arith, ints)

in_only : (m : BackendMessage) → HasBackendFrame m → (backend_frame m).tag ≡ 71 → (x : Copied) × IsCopied x × ((backend_frame m).body ≡ copied_bytes x)
in_only (CopyInResponse f c) h e = ((cast_unsigned w8 f, c), (signed_bound8 f h.0, (h.1, h.2)), refl)
in_only _ h e = absurd (omega (arith, e))

out_only : (m : BackendMessage) → HasBackendFrame m → (backend_frame m).tag ≡ 72 → (x : Copied) × IsCopied x × ((backend_frame m).body ≡ copied_bytes x)
out_only (CopyOutResponse f c) h e = ((cast_unsigned w8 f, c), (signed_bound8 f h.0, (h.1, h.2)), refl)
out_only _ h e = absurd (omega (arith, e))

abbrev in_message : Copied → BackendMessage
in_message x = CopyInResponse (cast_signed w8 x.0) x.1

in_kind : IsKind IsCopied copied_bytes 71 in_message
in_kind = record {
  fits = λ x h. (signed_fits8 x.0 h.0, h.1.0, h.1.1);
  frame = λ x h. ap (λ (b : ℕ). record { tag = 71; body = (b ∷ []) ++ codes_bytes x.1 }) (of_z-to_z w8 x.0 h.0);
  only = in_only;
}

abbrev out_message : Copied → BackendMessage
out_message x = CopyOutResponse (cast_signed w8 x.0) x.1

out_kind : IsKind IsCopied copied_bytes 72 out_message
out_kind = record {
  fits = λ x h. (signed_fits8 x.0 h.0, h.1.0, h.1.1);
  frame = λ x h. ap (λ (b : ℕ). record { tag = 72; body = (b ∷ []) ++ codes_bytes x.1 }) (of_z-to_z w8 x.0 h.0);
  only = out_only;
}

pub in_says : (body : List ℕ) (format : ℤ) (codes : List ℤ) → FitsSigned w8 format → AreBytes body → whole (then_at byte_at (counted_at signed16_at)) body ≡ Some (cast_unsigned w8 format, codes) → Says 71 body (CopyInResponse format codes)
in_says body format codes h bytes e = subst (λ (z : ℤ). Says 71 body (CopyInResponse z codes)) (to_z-of_z w8 format h) (says IsCopied copied_bytes copied_at 71 in_message copied_exact in_kind body (cast_unsigned w8 format, codes) bytes e)

pub in_none : (body : List ℕ) → whole (then_at byte_at (counted_at signed16_at)) body ≡ None → (m : BackendMessage) → Says 71 body m → ⊥
in_none body e = says_none IsCopied copied_bytes copied_at 71 in_message copied_exact in_kind body e

pub out_says : (body : List ℕ) (format : ℤ) (codes : List ℤ) → FitsSigned w8 format → AreBytes body → whole (then_at byte_at (counted_at signed16_at)) body ≡ Some (cast_unsigned w8 format, codes) → Says 72 body (CopyOutResponse format codes)
out_says body format codes h bytes e = subst (λ (z : ℤ). Says 72 body (CopyOutResponse z codes)) (to_z-of_z w8 format h) (says IsCopied copied_bytes copied_at 72 out_message copied_exact out_kind body (cast_unsigned w8 format, codes) bytes e)

pub out_none : (body : List ℕ) → whole (then_at byte_at (counted_at signed16_at)) body ≡ None → (m : BackendMessage) → Says 72 body m → ⊥
out_none body e = says_none IsCopied copied_bytes copied_at 72 out_message copied_exact out_kind body e
