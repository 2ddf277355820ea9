-- A frame is read in one way: it carries at most one message of each side.
use Rattle.pg_wire.specs.declared.fields.ErrorField.{ErrorField}
use Rattle.pg_wire.specs.declared.status.TransactionStatus.{TransactionStatus}
use Rattle.std.proofs.Common.{◌≡◌, ℕ, ℤ, ◌-◌, ◌<◌, ◌^◌, true, nat_eq, List, [], ◌∷◌, ◌++◌, length, Option, Some, None, get_or, refl, sym, ap, ap₂, ◌∙◌, append_assoc, append-nil, arith, flat_map}
use Rattle.std.specs.List.{AllByRecursion, list_any}
use Rattle.std.specs.Int.{w8, w16, w32, from_be_bytes, cast_unsigned, cast_signed}
use Rattle.std.specs.Prelude.{FitsSigned}
use Rattle.std.proofs.lemmas.Int.{to_z-of_z}
use Rattle.std.proofs.lemmas.Nat.{from_be_bytes-to_be_bytes_4, from_be_bytes-to_be_bytes_2}
use Rattle.pg_wire.specs.Bytes.{number16, number32, signed16, signed32, ended, value, HasNoNul}
use Rattle.pg_wire.specs.Frame.{Frame}
use Rattle.pg_wire.specs.Frontend.{FrontendMessage, frontend_frame, HasFrontendFrame, FitsValue, IsNumber32, type_list, bound, statement, portal, Query, Parse, DescribeStatement, DescribePortal, Bind, Execute, CloseStatement, ClosePortal, Sync, Terminate, CopyData, CopyDone, CopyFail}
use Rattle.pg_wire.specs.Backend.{FieldDescription, FitsField, FitsDetail, field_bytes, detail_bytes, details_bytes, copy_bytes, status_byte, IsColumns, BackendMessage, backend_frame, HasBackendFrame, row_bytes, fields_bytes, DataRow, CommandComplete, ReadyForQuery, Authentication, BackendKeyData, ParameterStatus, RowDescription, ParameterDescription, ErrorResponse, NoticeResponse, NotificationResponse, CopyInResponse, CopyOutResponse, BackendCopyData, BackendCopyDone, EmptyQueryResponse, ParseComplete, BindComplete, CloseComplete, NoData, PortalSuspended}
use Rattle.pg_wire.specs.declared.status.TransactionStatus.TheVariants as statuses
use Rattle.pg_wire.proofs.Tests.{neither_true}
use Rattle.pg_wire.proofs.ReaderLaws.{signed_bound16, signed_bound32}
use Rattle.pg_wire.proofs.CutLaws.{same_front}

-- the code of a value that fits begins no other
abbrev pub IsFrontCode : {A : Type 0} → (A → Type 0) → (A → List ℕ) → Type 0
IsFrontCode {A} P f = (a b : A) (x y : List ℕ) → P a → P b → f a ++ x ≡ f b ++ y → (a ≡ b) × (x ≡ y)

pub ended_front : IsFrontCode HasNoNul ended
ended_front [] [] x y h k e = (refl, cc)
ended_front [] (c ∷ cs) x y h k e =
    let zero_is : 0 ≡ c = cc in
    let apart = neither_true (nat_eq 0 c) (list_any (nat_eq 0) cs) k in
    let same : true ≡ nat_eq 0 c = ap (nat_eq 0) zero_is in
    let apart_is = apart.0 in
    absurd cc
ended_front (c ∷ cs) [] x y h k e =
    let zero_is : 0 ≡ c = cc in
    let apart = neither_true (nat_eq 0 c) (list_any (nat_eq 0) cs) h in
    let same : true ≡ nat_eq 0 c = ap (nat_eq 0) zero_is in
    let apart_is = apart.0 in
    absurd cc
ended_front (c ∷ cs) (d ∷ ds) x y h k e =
    let heads : c ≡ d = cc in
    let tails : ended cs ++ x ≡ ended ds ++ y = cc in
    let further = ended_front cs ds x y (neither_true (nat_eq 0 c) _ h).1 (neither_true (nat_eq 0 d) _ k).1 tails in
    (cc (heads, further.0), further.1)

pub number32_front : IsFrontCode (λ n. n < 2 ^ 32) number32
number32_front m n x y h k e =
    let size : number32 m ≡ number32 n = cc in
    (sym (from_be_bytes-to_be_bytes_4 m h) ∙ ap (from_be_bytes w32) size ∙ from_be_bytes-to_be_bytes_4 n k, cc)

pub number16_front : IsFrontCode (λ n. n < 2 ^ 16) number16
number16_front m n x y h k e =
    let size : number16 m ≡ number16 n = cc in
    (sym (from_be_bytes-to_be_bytes_2 m h) ∙ ap (from_be_bytes w16) size ∙ from_be_bytes-to_be_bytes_2 n k, cc)

pub value_front : IsFrontCode FitsValue value
value_front None None x y h k e = (refl, cc)
value_front None (Some b) x y h k e =
    let n = number32_front (2 ^ 32 - 1) (length b) x (b ++ y) (omega arith) (omega (arith, k)) (e ∙ append_assoc (number32 (length b)) b y) in
    let l = n.0 in
    absurd (omega (arith, l, k))
value_front (Some a) None x y h k e =
    let n = number32_front (length a) (2 ^ 32 - 1) (a ++ x) y (omega (arith, h)) (omega arith) (sym (append_assoc (number32 (length a)) a x) ∙ e) in
    let l = n.0 in
    absurd (omega (arith, l, h))
value_front (Some a) (Some b) x y h k e =
    let n = number32_front (length a) (length b) (a ++ x) (b ++ y) (omega (arith, h)) (omega (arith, k)) (sym (append_assoc (number32 (length a)) a x) ∙ e ∙ append_assoc (number32 (length b)) b y) in
    let both = same_front a b x y n.0 n.1 in
    (ap Some both.0, both.1)

-- values one behind the other, so many of them
pub all_front : {A : Type 0} (P : A → Type 0) (f : A → List ℕ) → IsFrontCode P f → (xs ys : List A) (x y : List ℕ) → AllByRecursion P xs → AllByRecursion P ys → length xs ≡ length ys → flat_map f xs ++ x ≡ flat_map f ys ++ y → (xs ≡ ys) × (x ≡ y)
all_front P f code [] [] x y h k len e = (refl, e)
all_front P f code [] (b ∷ bs) x y h k len e = absurd (omega arith)
all_front P f code (a ∷ as') [] x y h k len e = absurd (omega arith)
all_front P f code (a ∷ as') (b ∷ bs) x y h k len e =
    let one = code a b (flat_map f as' ++ x) (flat_map f bs ++ y) h.0 k.0 (sym (append_assoc (f a) (flat_map f as') x) ∙ e ∙ append_assoc (f b) (flat_map f bs) y) in
    let further = all_front P f code as' bs x y h.1 k.1 (omega (arith, len)) one.1 in
    (ap₂ (λ (u : _) (us : List _). u ∷ us) one.0 further.0, further.1)

-- a count and the values
pub counted_front : {A : Type 0} (P : A → Type 0) (f : A → List ℕ) → IsFrontCode P f → IsFrontCode (λ (xs : List A). (length xs < 2 ^ 16) × AllByRecursion P xs) (λ xs. number16 (length xs) ++ flat_map f xs)
counted_front P f code xs ys x y h k e =
    let n = number16_front (length xs) (length ys) (flat_map f xs ++ x) (flat_map f ys ++ y) h.0 k.0 (sym (append_assoc (number16 (length xs)) (flat_map f xs) x) ∙ e ∙ append_assoc (number16 (length ys)) (flat_map f ys) y) in
    all_front P f code xs ys x y h.1 k.1 n.0 n.1

-- a code that begins no other, at the end of the bytes
whole_code : {A : Type 0} (P : A → Type 0) (f : A → List ℕ) → IsFrontCode P f → (a b : A) → P a → P b → f a ≡ f b → a ≡ b
whole_code P f code a b h k e = (code a b [] [] h k (append-nil (f a) ∙ e ∙ sym (append-nil (f b)))).0

abbrev body_of : Frame → List ℕ
body_of m = m.body

types_front : IsFrontCode (λ (ts : List ℕ). (length ts < 2 ^ 16) × AllByRecursion IsNumber32 ts) type_list
types_front = counted_front IsNumber32 number32 number32_front

statement_front : IsFrontCode HasNoNul statement
statement_front a b x y h k e = let t : ended a ++ x ≡ ended b ++ y = cc in ended_front a b x y h k t

portal_front : IsFrontCode HasNoNul portal
portal_front a b x y h k e = let t : ended a ++ x ≡ ended b ++ y = cc in ended_front a b x y h k t

parse_unique : (n s t n' s' t' : List ℕ) → HasFrontendFrame (Parse n s t) → HasFrontendFrame (Parse n' s' t') → ended n ++ ended s ++ type_list t ≡ ended n' ++ ended s' ++ type_list t' → Parse n s t ≡ Parse n' s' t'
parse_unique n s t n' s' t' h k e =
    let one = ended_front n n' (ended s ++ type_list t) (ended s' ++ type_list t') h.0 k.0 (sym (append_assoc (ended n) (ended s) (type_list t)) ∙ e ∙ append_assoc (ended n') (ended s') (type_list t')) in
    let two = ended_front s s' (type_list t) (type_list t') h.1 k.1 one.1 in
    let three = whole_code _ type_list types_front t t' (h.2, h.3) (k.2, k.3) two.1 in
    cc (one.0, two.0, three)

-- the values of Bind behind the two words for formats
abbrev values_part : List (Option (List ℕ)) → List ℕ
values_part vs = number16 (length vs) ++ flat_map value vs

bind_unique : (n n' : List ℕ) (v v' : List (Option (List ℕ))) → HasFrontendFrame (Bind n v) → HasFrontendFrame (Bind n' v') → ended [] ++ ended n ++ bound v ≡ ended [] ++ ended n' ++ bound v' → Bind n v ≡ Bind n' v'
bind_unique n n' v v' h k e =
    let tails : ended n ++ bound v ≡ ended n' ++ bound v' = cc in
    let one = ended_front n n' (bound v) (bound v') h.0 k.0 tails in
    let all = one.1 in
    let inner : values_part v ++ number16 1 ++ number16 1 ≡ values_part v' ++ number16 1 ++ number16 1 = cc in
    let two = counted_front FitsValue value value_front v v' (number16 1 ++ number16 1) (number16 1 ++ number16 1) (h.1, h.2) (k.1, k.2) (sym (append_assoc (values_part v) (number16 1) (number16 1)) ∙ inner ∙ append_assoc (values_part v') (number16 1) (number16 1)) in
    cc (one.0, two.0)

-- a client's frame carries one message
pub frontend_frame_unique : (x y : FrontendMessage) → HasFrontendFrame x → HasFrontendFrame y → frontend_frame x ≡ frontend_frame y → x ≡ y
frontend_frame_unique (Query a) (Query b) h k e = ap Query (whole_code HasNoNul ended ended_front a b h k (ap body_of e))
frontend_frame_unique (Parse n s t) (Parse n' s' t') h k e = parse_unique n s t n' s' t' h k (ap body_of e)
frontend_frame_unique (DescribeStatement a) (DescribeStatement b) h k e = ap DescribeStatement (whole_code HasNoNul statement statement_front a b h k (ap body_of e))
frontend_frame_unique (DescribePortal a) (DescribePortal b) h k e = ap DescribePortal (whole_code HasNoNul portal portal_front a b h k (ap body_of e))
frontend_frame_unique (Bind n v) (Bind n' v') h k e = bind_unique n n' v v' h k (ap body_of e)
frontend_frame_unique (Execute n l) (Execute n' l') h k e =
    let one = ended_front n n' (number32 l) (number32 l') h.0 k.0 (ap body_of e) in
    let two = whole_code _ number32 number32_front l l' h.1 k.1 one.1 in
    ap₂ Execute one.0 two
frontend_frame_unique (CloseStatement a) (CloseStatement b) h k e = ap CloseStatement (whole_code HasNoNul statement statement_front a b h k (ap body_of e))
frontend_frame_unique (ClosePortal a) (ClosePortal b) h k e = ap ClosePortal (whole_code HasNoNul portal portal_front a b h k (ap body_of e))
frontend_frame_unique Sync Sync h k e = refl
frontend_frame_unique Terminate Terminate h k e = refl
frontend_frame_unique (CopyData a) (CopyData b) h k e = ap CopyData (ap body_of e)
frontend_frame_unique CopyDone CopyDone h k e = refl
frontend_frame_unique (CopyFail a) (CopyFail b) h k e = ap CopyFail (whole_code HasNoNul ended ended_front a b h k (ap body_of e))
frontend_frame_unique _ _ h k e = let tags = ap (λ (m : Frame). m.tag) e in let heads = ap (λ (m : Frame). get_or m.body 0 0) e in absurd (omega (arith, tags, heads))

-- ---- a server's messages

signed16_front : IsFrontCode (FitsSigned w16) signed16
signed16_front a b x y h k e =
    let n = number16_front (cast_unsigned w16 a) (cast_unsigned w16 b) x y (signed_bound16 a h) (signed_bound16 b k) e in
    (sym (to_z-of_z w16 a h) ∙ ap (cast_signed w16) n.0 ∙ to_z-of_z w16 b k, n.1)

signed32_front : IsFrontCode (FitsSigned w32) signed32
signed32_front a b x y h k e =
    let n = number32_front (cast_unsigned w32 a) (cast_unsigned w32 b) x y (signed_bound32 a h) (signed_bound32 b k) e in
    (sym (to_z-of_z w32 a h) ∙ ap (cast_signed w32) n.0 ∙ to_z-of_z w32 b k, n.1)

abbrev field_of : List ℕ → ℕ → ℤ → ℕ → ℤ → ℤ → ℤ → FieldDescription
field_of name table attribute type_id size modifier format = record { name = name; table = table; attribute = attribute; type_id = type_id; size = size; modifier = modifier; format = format }

-- what follows each part of a field
abbrev behind_modifier : FieldDescription → List ℕ → List ℕ
behind_modifier f x = signed16 f.format ++ x

abbrev behind_size : FieldDescription → List ℕ → List ℕ
behind_size f x = signed32 f.modifier ++ behind_modifier f x

abbrev behind_type : FieldDescription → List ℕ → List ℕ
behind_type f x = signed16 f.size ++ behind_size f x

abbrev behind_attribute : FieldDescription → List ℕ → List ℕ
behind_attribute f x = number32 f.type_id ++ behind_type f x

abbrev behind_table : FieldDescription → List ℕ → List ℕ
behind_table f x = signed16 f.attribute ++ behind_attribute f x

abbrev behind_name : FieldDescription → List ℕ → List ℕ
behind_name f x = number32 f.table ++ behind_table f x

field_regroup : (f : FieldDescription) (x : List ℕ) → field_bytes f ++ x ≡ ended f.name ++ behind_name f x
field_regroup f x = simp append_assoc

field_front : IsFrontCode FitsField field_bytes
field_front a b x y h k e =
    let name = ended_front a.name b.name (behind_name a x) (behind_name b y) h.0 k.0 (sym (field_regroup a x) ∙ e ∙ field_regroup b y) in
    let table = number32_front a.table b.table (behind_table a x) (behind_table b y) h.2 k.2 name.1 in
    let attribute = signed16_front a.attribute b.attribute (behind_attribute a x) (behind_attribute b y) h.4 k.4 table.1 in
    let type_id = number32_front a.type_id b.type_id (behind_type a x) (behind_type b y) h.3 k.3 attribute.1 in
    let size = signed16_front a.size b.size (behind_size a x) (behind_size b y) h.5 k.5 type_id.1 in
    let modifier = signed32_front a.modifier b.modifier (behind_modifier a x) (behind_modifier b y) h.6 k.6 size.1 in
    let format = signed16_front a.format b.format x y h.7 k.7 modifier.1 in
    let same : field_of a.name a.table a.attribute a.type_id a.size a.modifier a.format ≡ field_of b.name b.table b.attribute b.type_id b.size b.modifier b.format = cc (name.0, table.0, attribute.0, type_id.0, size.0, modifier.0, format.0) in
    (same, format.1)

abbrev detail_of : ℕ → List ℕ → ErrorField
detail_of code text = record { code = code; text = text }

details_regroup : (d : ErrorField) (ds : List ErrorField) (x : List ℕ) → ended d.text ++ flat_map detail_bytes ds ++ 0 ∷ [] ++ x ≡ ended d.text ++ (details_bytes ds ++ x)
details_regroup d ds x = simp append_assoc

details_front : IsFrontCode (AllByRecursion FitsDetail) details_bytes
details_front [] [] x y h k e = (refl, cc)
details_front [] (d ∷ ds) x y h k e = let code : 0 ≡ d.code = cc in absurd (k.0.0 (sym code))
details_front (d ∷ ds) [] x y h k e = let code : d.code ≡ 0 = cc in absurd (h.0.0 code)
details_front (d ∷ ds) (c ∷ cs) x y h k e =
    let code : d.code ≡ c.code = cc in
    let t : ended d.text ++ flat_map detail_bytes ds ++ 0 ∷ [] ++ x ≡ ended c.text ++ flat_map detail_bytes cs ++ 0 ∷ [] ++ y = cc in
    let text = ended_front d.text c.text (details_bytes ds ++ x) (details_bytes cs ++ y) h.0.1 k.0.1 (sym (details_regroup d ds x) ∙ t ∙ details_regroup c cs y) in
    let further = details_front ds cs x y h.1 k.1 text.1 in
    (ap₂ (λ (u : ErrorField) (us : List ErrorField). u ∷ us) (ap₂ detail_of code text.0) further.0, further.1)

columns_unique : (f f' : ℤ) (c c' : List ℤ) → IsColumns f c → IsColumns f' c' → copy_bytes f c ≡ copy_bytes f' c' → (f ≡ f') × (c ≡ c')
columns_unique f f' c c' h k e =
    let format : cast_unsigned w8 f ≡ cast_unsigned w8 f' = cc in
    let tails : number16 (length c) ++ flat_map signed16 c ≡ number16 (length c') ++ flat_map signed16 c' = cc in (
      sym (to_z-of_z w8 f h.0) ∙ ap (cast_signed w8) format ∙ to_z-of_z w8 f' k.0,
      whole_code _ (λ (xs : List ℤ). number16 (length xs) ++ flat_map signed16 xs) (counted_front (FitsSigned w16) signed16 signed16_front) c c' (h.1, h.2) (k.1, k.2) tails,
    )

status_unique : (s t : TransactionStatus) → status_byte s ≡ status_byte t → s ≡ t
status_unique statuses.Idle statuses.Idle e = refl
status_unique statuses.Transaction statuses.Transaction e = refl
status_unique statuses.Error statuses.Error e = refl
status_unique _ _ e = absurd (omega arith)

-- a server's frame carries one message
pub backend_frame_unique : (x y : BackendMessage) → HasBackendFrame x → HasBackendFrame y → backend_frame x ≡ backend_frame y → x ≡ y
backend_frame_unique (Authentication c b) (Authentication c' b') h k e =
    let one = number32_front c c' b b' h.0 k.0 (ap body_of e) in
    ap₂ Authentication one.0 one.1
backend_frame_unique (BackendKeyData p s) (BackendKeyData p' s') h k e =
    let one = number32_front p p' (number32 s) (number32 s') h.0 k.0 (ap body_of e) in
    ap₂ BackendKeyData one.0 (whole_code _ number32 number32_front s s' h.1 k.1 one.1)
backend_frame_unique (ParameterStatus n s) (ParameterStatus n' s') h k e =
    let one = ended_front n n' (ended s) (ended s') h.0.0 k.0.0 (ap body_of e) in
    ap₂ ParameterStatus one.0 (whole_code HasNoNul ended ended_front s s' h.1.0 k.1.0 one.1)
backend_frame_unique (ReadyForQuery s) (ReadyForQuery t) h k e = ap ReadyForQuery (status_unique s t (ap (λ (m : Frame). get_or m.body 0 0) e))
backend_frame_unique (RowDescription a) (RowDescription b) h k e = ap RowDescription (whole_code _ fields_bytes (counted_front FitsField field_bytes field_front) a b h k (ap body_of e))
backend_frame_unique (ParameterDescription a) (ParameterDescription b) h k e = ap ParameterDescription (whole_code _ type_list types_front a b h k (ap body_of e))
backend_frame_unique (DataRow a) (DataRow b) h k e = ap DataRow (whole_code _ row_bytes (counted_front FitsValue value value_front) a b h k (ap body_of e))
backend_frame_unique (CommandComplete a) (CommandComplete b) h k e = ap CommandComplete (whole_code HasNoNul ended ended_front a b h k (ap body_of e))
backend_frame_unique (ErrorResponse a) (ErrorResponse b) h k e = ap ErrorResponse (whole_code _ details_bytes details_front a b h k (ap body_of e))
backend_frame_unique (NoticeResponse a) (NoticeResponse b) h k e = ap NoticeResponse (whole_code _ details_bytes details_front a b h k (ap body_of e))
backend_frame_unique (NotificationResponse p c l) (NotificationResponse p' c' l') h k e =
    let regroup : number32 p ++ (ended c ++ ended l) ≡ number32 p' ++ (ended c' ++ ended l') = sym (append_assoc (number32 p) (ended c) (ended l)) ∙ ap body_of e ∙ append_assoc (number32 p') (ended c') (ended l') in
    let one = number32_front p p' (ended c ++ ended l) (ended c' ++ ended l') h.0 k.0 regroup in
    let two = ended_front c c' (ended l) (ended l') h.1.0 k.1.0 one.1 in
    let three = whole_code HasNoNul ended ended_front l l' h.2.0 k.2.0 two.1 in
    cc (one.0, two.0, three)
backend_frame_unique (CopyInResponse f c) (CopyInResponse f' c') h k e = let one = columns_unique f f' c c' h k (ap body_of e) in ap₂ CopyInResponse one.0 one.1
backend_frame_unique (CopyOutResponse f c) (CopyOutResponse f' c') h k e = let one = columns_unique f f' c c' h k (ap body_of e) in ap₂ CopyOutResponse one.0 one.1
backend_frame_unique (BackendCopyData a) (BackendCopyData b) h k e = ap BackendCopyData (ap body_of e)
backend_frame_unique BackendCopyDone BackendCopyDone h k e = refl
backend_frame_unique EmptyQueryResponse EmptyQueryResponse h k e = refl
backend_frame_unique ParseComplete ParseComplete h k e = refl
backend_frame_unique BindComplete BindComplete h k e = refl
backend_frame_unique CloseComplete CloseComplete h k e = refl
backend_frame_unique NoData NoData h k e = refl
backend_frame_unique PortalSuspended PortalSuspended h k e = refl
backend_frame_unique _ _ h k e = let tags = ap (λ (m : Frame). m.tag) e in absurd (omega (arith, tags))
