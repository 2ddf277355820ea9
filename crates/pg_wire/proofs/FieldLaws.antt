-- The columns of a RowDescription.
use Rattle.std.proofs.Common.{◌≡◌, ℕ, ◌<◌, ◌^◌, List, ◌++◌, length, Some, None, refl, sym, ap, subst, ◌∙◌, append_assoc, arith}
use Rattle.std.specs.List.{AllByRecursion}
use Rattle.pg_wire.specs.Bytes.{number32, signed16, signed32, ended, AreBytes}
use Rattle.pg_wire.specs.Backend.{FieldDescription, FitsField, field_bytes, fields_bytes, BackendMessage, backend_frame, HasBackendFrame, RowDescription}
use Rattle.pg_wire.specs.Decoding.{Says}
use Rattle.pg_wire.specs.Reading.{number32_at, signed16_at, signed32_at, text_at, field_at, counted_at, whole}
use Rattle.pg_wire.proofs.ReaderLaws.{bind_some, rest_bytes, IsExact, number32_exact, signed16_exact, signed32_exact, text_exact, counted_exact}
use Rattle.pg_wire.proofs.MessageLaws.{IsKind, says, says_none}
use Rattle.std.proofs.lemmas.Option.{same_Some}

join : (bytes front rest part more : List ℕ) → bytes ≡ front ++ rest → rest ≡ part ++ more → bytes ≡ (front ++ part) ++ more
join bytes front rest part more e k = e ∙ ap (λ (u : List ℕ). front ++ u) k ∙ sym (append_assoc front part more)

field_takes : (bytes : List ℕ) (x : FieldDescription × List ℕ) → AreBytes bytes → field_at bytes ≡ Some x → FitsField x.0 × (bytes ≡ field_bytes x.0 ++ x.1)
unfolding field_at
field_takes bytes x h e =
    let a = bind_some (text_at bytes) _ x e in
    let b = bind_some (number32_at a.0.1) _ x a.2 in
    let c = bind_some (signed16_at b.0.1) _ x b.2 in
    let d = bind_some (number32_at c.0.1) _ x c.2 in
    let s = bind_some (signed16_at d.0.1) _ x d.2 in
    let m = bind_some (signed32_at s.0.1) _ x s.2 in
    let f = bind_some (signed16_at m.0.1) _ x m.2 in
    let ta = text_exact.takes bytes a.0 h a.1 in
    let ha = rest_bytes bytes (ended a.0.0) a.0.1 h ta.1 in
    let tb = number32_exact.takes a.0.1 b.0 ha b.1 in
    let hb = rest_bytes a.0.1 (number32 b.0.0) b.0.1 ha tb.1 in
    let tc = signed16_exact.takes b.0.1 c.0 hb c.1 in
    let hc = rest_bytes b.0.1 (signed16 c.0.0) c.0.1 hb tc.1 in
    let td = number32_exact.takes c.0.1 d.0 hc d.1 in
    let hd = rest_bytes c.0.1 (number32 d.0.0) d.0.1 hc td.1 in
    let t5 = signed16_exact.takes d.0.1 s.0 hd s.1 in
    let h5 = rest_bytes d.0.1 (signed16 s.0.0) s.0.1 hd t5.1 in
    let t6 = signed32_exact.takes s.0.1 m.0 h5 m.1 in
    let h6 = rest_bytes s.0.1 (signed32 m.0.0) m.0.1 h5 t6.1 in
    let t7 = signed16_exact.takes m.0.1 f.0 h6 f.1 in
    let e2 = join bytes (ended a.0.0) a.0.1 (number32 b.0.0) b.0.1 ta.1 tb.1 in
    let e3 = join bytes _ b.0.1 (signed16 c.0.0) c.0.1 e2 tc.1 in
    let e4 = join bytes _ c.0.1 (number32 d.0.0) d.0.1 e3 td.1 in
    let e5 = join bytes _ d.0.1 (signed16 s.0.0) s.0.1 e4 t5.1 in
    let e6 = join bytes _ s.0.1 (signed32 m.0.0) m.0.1 e5 t6.1 in
    let e7 = join bytes _ m.0.1 (signed16 f.0.0) f.0.1 e6 t7.1 in
    let made : FieldDescription × List ℕ = (record { name = a.0.0; table = b.0.0; attribute = c.0.0; type_id = d.0.0; size = s.0.0; modifier = m.0.0; format = f.0.0 }, f.0.1) in
    subst (λ (y : FieldDescription × List ℕ). FitsField y.0 × (bytes ≡ field_bytes y.0 ++ y.1)) (same_Some made x f.2)
    ((ta.0.0, ta.0.1, tb.0, td.0, tc.0, t5.0, t6.0, t7.0), e7)

field_again : (f : FieldDescription) (rest : List ℕ) → FitsField f → field_at (field_bytes f ++ rest) ≡ Some (f, rest)
unfolding field_at
field_again f rest h =
    let regrouped : field_bytes f ++ rest ≡ ended f.name ++ (number32 f.table ++ (signed16 f.attribute ++ (number32 f.type_id ++ (signed16 f.size ++ (signed32 f.modifier ++ (signed16 f.format ++ rest)))))) = simp append_assoc in
    ap field_at regrouped
    ∙ rw (text_exact.again f.name _ (h.0, h.1), number32_exact.again f.table _ h.2, signed16_exact.again f.attribute _ h.4, number32_exact.again f.type_id _ h.3, signed16_exact.again f.size _ h.5, signed32_exact.again f.modifier _ h.6, signed16_exact.again f.format rest h.7) refl

field_exact : IsExact FitsField field_bytes field_at
field_exact = record { takes = field_takes; again = field_again }

abbrev Columns : Type 0
Columns = List FieldDescription

abbrev AreColumns : Columns → Type 0
AreColumns fields = (length fields < 2 ^ 16) × AllByRecursion FitsField fields

columns_only : (m : BackendMessage) → HasBackendFrame m → (backend_frame m).tag ≡ 84 → (x : Columns) × AreColumns x × ((backend_frame m).body ≡ fields_bytes x)
columns_only (RowDescription f) h e = (f, h, refl)
columns_only _ h e = absurd (omega (arith, e))

columns_kind : IsKind AreColumns fields_bytes 84 RowDescription
columns_kind = record { fits = λ x h. h; frame = λ x _. refl; only = columns_only }

columns_exact : IsExact AreColumns fields_bytes (counted_at field_at)
columns_exact = counted_exact FitsField field_bytes field_at field_exact

pub columns_says : (body : List ℕ) (fields : Columns) → AreBytes body → whole (counted_at field_at) body ≡ Some fields → Says 84 body (RowDescription fields)
columns_says body fields bytes e = says AreColumns fields_bytes (counted_at field_at) 84 RowDescription columns_exact columns_kind body fields bytes e

pub columns_none : (body : List ℕ) → whole (counted_at field_at) body ≡ None → (m : BackendMessage) → Says 84 body m → ⊥
columns_none body e = says_none AreColumns fields_bytes (counted_at field_at) 84 RowDescription columns_exact columns_kind body e
