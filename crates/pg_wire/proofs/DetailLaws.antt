-- The fields of an ErrorResponse or a NoticeResponse.
use Rattle.std.proofs.Common.{◌≡◌, ℕ, List, [], ◌∷◌, ◌++◌, Some, None, refl, ap, subst, ◌∙◌, arith}
use Rattle.std.specs.List.{AllByRecursion}
use Rattle.pg_wire.specs.Bytes.{HasNoNul, AreBytes}
use Rattle.pg_wire.specs.declared.fields.ErrorField.{ErrorField}
use Rattle.pg_wire.specs.Backend.{FitsDetail, detail_bytes, details_bytes, BackendMessage, backend_frame, HasBackendFrame, ErrorResponse, NoticeResponse}
use Rattle.pg_wire.specs.Decoding.{Says}
use Rattle.pg_wire.specs.Reading.{byte_at, ended_at, detail_at, listed_at, whole}
use Rattle.pg_wire.proofs.ReaderLaws.{bind_some, rest_bytes, IsExact, byte_exact, ended_exact}
use Rattle.pg_wire.proofs.MessageLaws.{IsKind, says, says_none}
use Rattle.pg_wire.proofs.UntilLaws.{IsItem, listed_exact}
use Rattle.std.proofs.lemmas.Option.{same_Some}

abbrev Detail : Type 0
Detail = ErrorField

abbrev IsDetail : Detail → Type 0
IsDetail d = HasNoNul d.text

detail_takes : (bytes : List ℕ) (x : Detail × List ℕ) → AreBytes bytes → detail_at bytes ≡ Some x → IsDetail x.0 × (bytes ≡ detail_bytes x.0 ++ x.1)
unfolding detail_at
detail_takes bytes x h e =
    let a = bind_some (byte_at bytes) _ x e in
    let b = bind_some (ended_at a.0.1) _ x a.2 in
    let t = byte_exact.takes bytes a.0 h a.1 in
    let u = ended_exact.takes a.0.1 b.0 (rest_bytes bytes (a.0.0 ∷ []) a.0.1 h t.1) b.1 in
    let made : Detail × List ℕ = (record { code = a.0.0; text = b.0.0 }, b.0.1) in
    subst (λ (y : Detail × List ℕ). IsDetail y.0 × (bytes ≡ detail_bytes y.0 ++ y.1)) (same_Some made x b.2) (u.0, t.1 ∙ ap (λ (v : List ℕ). a.0.0 ∷ v) u.1)

detail_again : (d : Detail) (rest : List ℕ) → IsDetail d → detail_at (detail_bytes d ++ rest) ≡ Some (d, rest)
unfolding detail_at byte_at
detail_again d rest h = rw (ended_exact.again d.text rest h) refl

detail_exact : IsExact IsDetail detail_bytes detail_at
detail_exact = record { takes = detail_takes; again = detail_again }

detail_item : IsItem IsDetail FitsDetail detail_bytes
detail_item = record { filled = λ d. omega arith; fits = λ d p z. (z, p); again = λ d q. q.1; begins = λ d q. q.0 }

abbrev Details : Type 0
Details = List Detail

details_exact : IsExact (AllByRecursion FitsDetail) details_bytes (listed_at detail_at)
details_exact = listed_exact IsDetail FitsDetail detail_bytes detail_at detail_exact detail_item

error_only : (m : BackendMessage) → HasBackendFrame m → (backend_frame m).tag ≡ 69 → (x : Details) × AllByRecursion FitsDetail x × ((backend_frame m).body ≡ details_bytes x)
error_only (ErrorResponse d) h e = (d, h, refl)
error_only _ h e = absurd (omega (arith, e))

error_kind : IsKind (AllByRecursion FitsDetail) details_bytes 69 ErrorResponse
error_kind = record { fits = λ x h. h; frame = λ x _. refl; only = error_only }

pub error_says : (body : List ℕ) (details : Details) → AreBytes body → whole (listed_at detail_at) body ≡ Some details → Says 69 body (ErrorResponse details)
error_says body details bytes e = says (AllByRecursion FitsDetail) details_bytes (listed_at detail_at) 69 ErrorResponse details_exact error_kind body details bytes e

pub error_none : (body : List ℕ) → whole (listed_at detail_at) body ≡ None → (m : BackendMessage) → Says 69 body m → ⊥
error_none body e = says_none (AllByRecursion FitsDetail) details_bytes (listed_at detail_at) 69 ErrorResponse details_exact error_kind body e

notice_only : (m : BackendMessage) → HasBackendFrame m → (backend_frame m).tag ≡ 78 → (x : Details) × AllByRecursion FitsDetail x × ((backend_frame m).body ≡ details_bytes x)
notice_only (NoticeResponse d) h e = (d, h, refl)
notice_only _ h e = absurd (omega (arith, e))

notice_kind : IsKind (AllByRecursion FitsDetail) details_bytes 78 NoticeResponse
notice_kind = record { fits = λ x h. h; frame = λ x _. refl; only = notice_only }

pub notice_says : (body : List ℕ) (details : Details) → AreBytes body → whole (listed_at detail_at) body ≡ Some details → Says 78 body (NoticeResponse details)
notice_says body details bytes e = says (AllByRecursion FitsDetail) details_bytes (listed_at detail_at) 78 NoticeResponse details_exact notice_kind body details bytes e

pub notice_none : (body : List ℕ) → whole (listed_at detail_at) body ≡ None → (m : BackendMessage) → Says 78 body m → ⊥
notice_none body e = says_none (AllByRecursion FitsDetail) details_bytes (listed_at detail_at) 78 NoticeResponse details_exact notice_kind body e
