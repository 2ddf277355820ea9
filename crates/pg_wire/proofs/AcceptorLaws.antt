-- The acceptor takes exactly the beginnings of the responses to a Query.
use Rattle.pg_wire.specs.declared.fields.ErrorField.{ErrorField}
use Rattle.pg_wire.specs.declared.status.TransactionStatus.{TransactionStatus}
use Rattle.std.proofs.Common.{◌≡◌, ◌≢◌, ℕ, cond, nat_eq, List, [], ◌∷◌, ◌++◌, length, map, Option, Some, None, refl, sym, ap, ◌∙◌, subst, append_assoc, append-nil, flat_map, ◌⊎◌, inl, inr, option_and_then}
use Rattle.std.specs.List.{AllByRecursion}
use Rattle.std.proofs.lemmas.List.Concat.{flat_map-append}
use Rattle.std.proofs.lemmas.List.{map-append}
use Rattle.std.proofs.lemmas.Bool.{eqb-true, eq-eqb}
use Rattle.std.proofs.lemmas.Option.{cond_some, same_Some}
use Rattle.pg_wire.specs.Bytes.{HasNoNul}
use Rattle.pg_wire.specs.Backend.{FieldDescription, Values, BackendMessage, HasBackendFrame, RowDescription, DataRow, CommandComplete, ErrorResponse, EmptyQueryResponse, ReadyForQuery}
use Rattle.pg_wire.specs.Server.{AreWide, IsSegment, IsTable, EndsInError, IsQueryResponse}
use Rattle.pg_wire.specs.Acceptor.{Awaits, FirstSegment, FurtherSegment, RowsOf, AfterError, NothingMore, begins, next, accepts}
use Rattle.pg_wire.specs.declared.status.TransactionStatus.TheVariants as statuses
use Rattle.pg_wire.proofs.Each.{each_end}

flat : List (List BackendMessage) → List BackendMessage
flat rss = flat_map (λ rs. rs) rss

-- whole segments stand before
abbrev Prior : List BackendMessage → Type 0
Prior front = (before : List (List BackendMessage)) × AllByRecursion IsSegment before × (front ≡ flat_map (λ rs. rs) before)

-- what has come, for each thing that may be awaited
abbrev Shape : Awaits → List BackendMessage → Type 0
Shape FirstSegment front = front ≡ []
Shape FurtherSegment front = (before : List (List BackendMessage)) × (last : List BackendMessage) × AllByRecursion IsSegment before × IsSegment last × (front ≡ flat_map (λ rs. rs) before ++ last)
Shape (RowsOf width) front = (before : List (List BackendMessage)) × (fields : List FieldDescription) × (rows : List Values) × AllByRecursion IsSegment before × (length fields ≡ width) × AreWide width rows
    × (front ≡ flat_map (λ rs. rs) before ++ (RowDescription fields ∷ map DataRow rows))
Shape AfterError front = (before : List (List BackendMessage)) × (last : List BackendMessage) × AllByRecursion IsSegment before × EndsInError IsSegment last × (front ≡ flat_map (λ rs. rs) before ++ last)
Shape NothingMore front = IsQueryResponse front

flat_and : (rss : List (List BackendMessage)) (rs : List BackendMessage) → flat_map (λ rs. rs) (rss ++ rs ∷ []) ≡ flat_map (λ rs. rs) rss ++ rs
flat_and rss rs = flat_map-append (λ rs. rs) rss (rs ∷ []) ∙ ap (λ (t : List BackendMessage). flat_map (λ rs. rs) rss ++ t) (append-nil rs)

further_prior : (front : List BackendMessage) → Shape FurtherSegment front → Prior front
further_prior front s = (s.0 ++ s.1 ∷ [], each_end IsSegment s.0 s.1 s.2 s.3, s.4 ∙ sym (flat_and s.0 s.1))

broken_now : (a b : List BackendMessage) (details : List ErrorField) → IsSegment (a ++ b) → (b ≢ []) → EndsInError IsSegment (a ++ ErrorResponse details ∷ [])
broken_now a b details s n = (a, b, details, s, n, refl)

-- a segment begins behind whole ones
begin_step : (front : List BackendMessage) (a : BackendMessage) (t : Awaits) → Prior front → begins a ≡ Some t → Shape t (front ++ a ∷ [])
begin_step front (CommandComplete tag) t p e = subst (λ (u : Awaits). Shape u (front ++ CommandComplete tag ∷ [])) (some_is e) (p.0, CommandComplete tag ∷ [], p.1, inl (tag, refl), ap (λ (w : List BackendMessage). w ++ CommandComplete tag ∷ []) p.2)
  where
    some_is : Some FurtherSegment ≡ Some t → FurtherSegment ≡ t
    some_is h = cc
begin_step front EmptyQueryResponse t p e = subst (λ (u : Awaits). Shape u (front ++ EmptyQueryResponse ∷ [])) (some_is e) (p.0, EmptyQueryResponse ∷ [], p.1, inr (inr refl), ap (λ (w : List BackendMessage). w ++ EmptyQueryResponse ∷ []) p.2)
  where
    some_is : Some FurtherSegment ≡ Some t → FurtherSegment ≡ t
    some_is h = cc
begin_step front (RowDescription fields) t p e = subst (λ (u : Awaits). Shape u (front ++ RowDescription fields ∷ [])) (some_is e) (p.0, fields, [], p.1, refl, tt, ap (λ (w : List BackendMessage). w ++ RowDescription fields ∷ []) p.2)
  where
    some_is : Some (RowsOf (length fields)) ≡ Some t → RowsOf (length fields) ≡ t
    some_is h = cc
begin_step front (ErrorResponse details) t p e = subst (λ (u : Awaits). Shape u (front ++ ErrorResponse details ∷ [])) (some_is e) (p.0, ErrorResponse details ∷ [], p.1, broken_now [] (CommandComplete [] ∷ []) details (inl ([], refl)) (λ n. cc), ap (λ (w : List BackendMessage). w ++ ErrorResponse details ∷ []) p.2)
  where
    some_is : Some AfterError ≡ Some t → AfterError ≡ t
    some_is h = cc
begin_step front _ t p e = absurd cc

wide_and : (width : ℕ) (rows : List Values) (row : Values) → AreWide width rows → length row ≡ width → AreWide width (rows ++ row ∷ [])
wide_and width rows row h k = each_end (λ (r : Values). length r ≡ width) rows row h k

-- rows, and then one more
rows_and : (rows : List Values) (row : Values) → map DataRow rows ++ DataRow row ∷ [] ≡ map DataRow (rows ++ row ∷ [])
rows_and rows row = sym (map-append DataRow rows (row ∷ []))

rows_step : (width : ℕ) (front : List BackendMessage) (values : Values) (t : Awaits) → Shape (RowsOf width) front → cond (nat_eq (length values) width) (Some (RowsOf width)) None ≡ Some t → Shape t (front ++ DataRow values ∷ [])
rows_step width front values t s e =
    let c = cond_some (nat_eq (length values) width) (RowsOf width) t e in
    let wide : length values ≡ width = eqb-true _ _ c.0 in
    subst (λ (u : Awaits). Shape u (front ++ DataRow values ∷ [])) c.1 (
      s.0,
      s.1,
      s.2 ++ values ∷ [],
      s.3,
      s.4,
      wide_and width s.2 values s.5 wide,
      ap (λ (w : List BackendMessage). w ++ DataRow values ∷ []) s.6 ∙ append_assoc (flat_map (λ rs. rs) s.0) (RowDescription s.1 ∷ map DataRow s.2) (DataRow values ∷ []) ∙ ap (λ (w : List BackendMessage). flat_map (λ rs. rs) s.0 ++ (RowDescription s.1 ∷ w)) (rows_and s.2 values),
    )

table_is : (width : ℕ) (fields : List FieldDescription) (rows : List Values) (tag : List ℕ) → length fields ≡ width → AreWide width rows → IsTable (RowDescription fields ∷ map DataRow rows ++ CommandComplete tag ∷ [])
table_is width fields rows tag e w = (fields, rows, tag, subst (λ (n : ℕ). AreWide n rows) (sym e) w, refl)

complete_step : (width : ℕ) (front : List BackendMessage) (tag : List ℕ) → Shape (RowsOf width) front → Shape FurtherSegment (front ++ CommandComplete tag ∷ [])
complete_step width front tag s = (
  s.0,
  RowDescription s.1 ∷ map DataRow s.2 ++ CommandComplete tag ∷ [],
  s.3,
  inr (inl (table_is width s.1 s.2 tag s.4 s.5)),
  ap (λ (w : List BackendMessage). w ++ CommandComplete tag ∷ []) s.6 ∙ append_assoc (flat_map (λ rs. rs) s.0) (RowDescription s.1 ∷ map DataRow s.2) (CommandComplete tag ∷ []),
)

fail_step : (width : ℕ) (front : List BackendMessage) (details : List ErrorField) → Shape (RowsOf width) front → Shape AfterError (front ++ ErrorResponse details ∷ [])
fail_step width front details s = (
  s.0,
  RowDescription s.1 ∷ map DataRow s.2 ++ ErrorResponse details ∷ [],
  s.3,
  broken_now (RowDescription s.1 ∷ map DataRow s.2) (CommandComplete [] ∷ []) details (inr (inl (table_is width s.1 s.2 [] s.4 s.5))) (λ n. cc),
  ap (λ (w : List BackendMessage). w ++ ErrorResponse details ∷ []) s.6 ∙ append_assoc (flat_map (λ rs. rs) s.0) (RowDescription s.1 ∷ map DataRow s.2) (ErrorResponse details ∷ []),
)

end_well : (front : List BackendMessage) (status : TransactionStatus) → Shape FurtherSegment front → IsQueryResponse (front ++ ReadyForQuery status ∷ [])
end_well front status s = record { before = s.0; last = s.1; status = status; whole = s.2; ends = inl s.3; are = ap (λ (w : List BackendMessage). w ++ ReadyForQuery status ∷ []) s.4 }

end_broken : (front : List BackendMessage) (status : TransactionStatus) → Shape AfterError front → IsQueryResponse (front ++ ReadyForQuery status ∷ [])
end_broken front status s = record { before = s.0; last = s.1; status = status; whole = s.2; ends = inr s.3; are = ap (λ (w : List BackendMessage). w ++ ReadyForQuery status ∷ []) s.4 }

-- ---- what is accepted can be completed

accept_step : (s : Awaits) (front : List BackendMessage) (a : BackendMessage) (t : Awaits) → Shape s front → next s a ≡ Some t → Shape t (front ++ a ∷ [])
accept_step FirstSegment front a t s e = begin_step front a t ([], tt, s) e
accept_step FurtherSegment front (ReadyForQuery status) t s e = subst (λ (u : Awaits). Shape u (front ++ ReadyForQuery status ∷ [])) (same_Some NothingMore t e) (end_well front status s)
accept_step FurtherSegment front a t s e = begin_step front a t (further_prior front s) e
accept_step (RowsOf width) front (DataRow values) t s e = rows_step width front values t s e
accept_step (RowsOf width) front (CommandComplete tag) t s e = subst (λ (u : Awaits). Shape u (front ++ CommandComplete tag ∷ [])) (same_Some FurtherSegment t e) (complete_step width front tag s)
accept_step (RowsOf width) front (ErrorResponse details) t s e = subst (λ (u : Awaits). Shape u (front ++ ErrorResponse details ∷ [])) (same_Some AfterError t e) (fail_step width front details s)
accept_step (RowsOf width) front _ t s e = absurd cc
accept_step AfterError front (ReadyForQuery status) t s e = subst (λ (u : Awaits). Shape u (front ++ ReadyForQuery status ∷ [])) (same_Some NothingMore t e) (end_broken front status s)
accept_step AfterError front _ t s e = absurd cc
accept_step NothingMore front a t s e = absurd cc

pub and_then_some : (o : Option Awaits) (rs : List BackendMessage) (t : Awaits) → option_and_then (λ u. accepts u rs) o ≡ Some t → (u : Awaits) × (o ≡ Some u) × (accepts u rs ≡ Some t)
and_then_some None rs t e = absurd cc
and_then_some (Some u) rs t e = (u, refl, e)

accepts_shape : (s : Awaits) (front rest : List BackendMessage) (t : Awaits) → Shape s front → accepts s rest ≡ Some t → Shape t (front ++ rest)
accepts_shape s front [] t h e = subst (λ (u : Awaits). Shape u (front ++ [])) (same_Some s t e) (subst (Shape s) (sym (append-nil front)) h)
accepts_shape s front (a ∷ rs) t h e =
    let c = and_then_some (next s a) rs t e in
    subst (Shape t) (append_assoc front (a ∷ []) rs) (accepts_shape c.0 (front ++ a ∷ []) rs t (accept_step s front a c.0 h c.1) c.2)

-- the messages begin a response to a Query, and what is left of it can be sent
abbrev pub CanEnd : List BackendMessage → Type 0
CanEnd front = (rest : List BackendMessage) × IsQueryResponse (front ++ rest) × AllByRecursion HasBackendFrame rest

complete_ending : (front : List BackendMessage) (tag : List ℕ) → HasNoNul tag → Shape FurtherSegment (front ++ CommandComplete tag ∷ []) → CanEnd front
complete_ending front tag no_nul s = (CommandComplete tag ∷ ReadyForQuery statuses.Idle ∷ [], subst IsQueryResponse (append_assoc front (CommandComplete tag ∷ []) (ReadyForQuery statuses.Idle ∷ [])) (end_well (front ++ CommandComplete tag ∷ []) statuses.Idle s), (no_nul, (tt, tt)))

can_end : (s : Awaits) (front : List BackendMessage) → Shape s front → CanEnd front
can_end FirstSegment front s = complete_ending front [] refl (begin_step front (CommandComplete []) FurtherSegment ([], tt, s) refl)
can_end FurtherSegment front s = (ReadyForQuery statuses.Idle ∷ [], end_well front statuses.Idle s, (tt, tt))
can_end (RowsOf width) front s = complete_ending front [] refl (complete_step width front [] s)
can_end AfterError front s = (ReadyForQuery statuses.Idle ∷ [], end_broken front statuses.Idle s, (tt, tt))
can_end NothingMore front s = ([], subst IsQueryResponse (sym (append-nil front)) s, tt)

pub accepted_can_end : (front : List BackendMessage) (t : Awaits) → accepts FirstSegment front ≡ Some t → CanEnd front
accepted_can_end front t e = can_end t front (accepts_shape FirstSegment [] front t refl e)

-- ---- what is a response is accepted

through : (xs ys : List BackendMessage) → ((u : Awaits) → accepts u (xs ++ ys) ≡ option_and_then (λ t. accepts t ys) (accepts u xs)) → (o : Option Awaits) → option_and_then (λ t. accepts t (xs ++ ys)) o ≡ option_and_then (λ t. accepts t ys) (option_and_then (λ t. accepts t xs) o)
through xs ys f None = refl
through xs ys f (Some u) = f u

pub accepts-append : (s : Awaits) (xs ys : List BackendMessage) → accepts s (xs ++ ys) ≡ option_and_then (λ t. accepts t ys) (accepts s xs)
accepts-append s [] ys = refl
accepts-append s (a ∷ xs) ys = through xs ys (λ u. accepts-append u xs ys) (next s a)

accepts_then : (s t : Awaits) (xs ys : List BackendMessage) → accepts s xs ≡ Some t → accepts s (xs ++ ys) ≡ accepts t ys
accepts_then s t xs ys e = accepts-append s xs ys ∙ ap (option_and_then (λ (u : Awaits). accepts u ys)) e

row_next : (width : ℕ) (values : Values) → length values ≡ width → next (RowsOf width) (DataRow values) ≡ Some (RowsOf width)
row_next width values e = let same = eq-eqb (length values) width e in rw same refl

rows_accepted : (width : ℕ) (rows : List Values) (tag : List ℕ) → AreWide width rows → accepts (RowsOf width) (map DataRow rows ++ CommandComplete tag ∷ []) ≡ Some FurtherSegment
rows_accepted width [] tag h = refl
rows_accepted width (row ∷ rows) tag h = ap (option_and_then (λ (u : Awaits). accepts u (map DataRow rows ++ CommandComplete tag ∷ []))) (row_next width row h.0) ∙ rows_accepted width rows tag h.1

-- the two places where a segment may begin
abbrev pub IsStart : Awaits → Type 0
IsStart FirstSegment = Unit {0}
IsStart FurtherSegment = Unit {0}
IsStart _ = ⊥

table_accepted : (s : Awaits) (fields : List FieldDescription) (rows : List Values) (tag : List ℕ) → IsStart s → AreWide (length fields) rows → accepts s (RowDescription fields ∷ map DataRow rows ++ CommandComplete tag ∷ []) ≡ Some FurtherSegment
table_accepted FirstSegment fields rows tag i w = rows_accepted (length fields) rows tag w
table_accepted FurtherSegment fields rows tag i w = rows_accepted (length fields) rows tag w
table_accepted (RowsOf width) fields rows tag i w = absurd i
table_accepted AfterError fields rows tag i w = absurd i
table_accepted NothingMore fields rows tag i w = absurd i

command_accepted : (s : Awaits) (tag : List ℕ) → IsStart s → accepts s (CommandComplete tag ∷ []) ≡ Some FurtherSegment
command_accepted FirstSegment tag i = refl
command_accepted FurtherSegment tag i = refl
command_accepted (RowsOf width) tag i = absurd i
command_accepted AfterError tag i = absurd i
command_accepted NothingMore tag i = absurd i

empty_accepted : (s : Awaits) → IsStart s → accepts s (EmptyQueryResponse ∷ []) ≡ Some FurtherSegment
empty_accepted FirstSegment i = refl
empty_accepted FurtherSegment i = refl
empty_accepted (RowsOf width) i = absurd i
empty_accepted AfterError i = absurd i
empty_accepted NothingMore i = absurd i

pub error_accepted : (s : Awaits) (details : List ErrorField) → IsStart s → accepts s (ErrorResponse details ∷ []) ≡ Some AfterError
error_accepted FirstSegment details i = refl
error_accepted FurtherSegment details i = refl
error_accepted (RowsOf width) details i = absurd i
error_accepted AfterError details i = absurd i
error_accepted NothingMore details i = absurd i

pub segment_accepted : (s : Awaits) (rs : List BackendMessage) → IsStart s → IsSegment rs → accepts s rs ≡ Some FurtherSegment
segment_accepted s rs i (inl c) = ap (accepts s) c.1 ∙ command_accepted s c.0 i
segment_accepted s rs i (inr (inl t)) = ap (accepts s) t.4 ∙ table_accepted s t.0 t.1 t.2 i t.3
segment_accepted s rs i (inr (inr e)) = ap (accepts s) e ∙ empty_accepted s i

-- the beginning of rows, and an error
rows_broken : (width : ℕ) (front missing : List BackendMessage) (rows : List Values) (tag : List ℕ) (details : List ErrorField) → AreWide width rows → missing ≢ [] → front ++ missing ≡ map DataRow rows ++ CommandComplete tag ∷ [] → accepts (RowsOf width) (front ++ ErrorResponse details ∷ []) ≡ Some AfterError
rows_broken width [] missing rows tag details w n e = refl
rows_broken width (a ∷ front) missing [] tag details w n e = absurd (n (tail_nil front missing (tails e)))
  where
    tails : (a ∷ front) ++ missing ≡ CommandComplete tag ∷ [] → front ++ missing ≡ []
    tails h = cc

    tail_nil : (xs ys : List BackendMessage) → xs ++ ys ≡ [] → ys ≡ []
    tail_nil [] ys h = h
    tail_nil (x ∷ xs) ys h = absurd cc
rows_broken width (a ∷ front) missing (row ∷ rows) tag details w n e =
    let head : a ≡ DataRow row = cc in
    let tails : front ++ missing ≡ map DataRow rows ++ CommandComplete tag ∷ [] = cc in
    ap (λ (b : BackendMessage). accepts (RowsOf width) (b ∷ front ++ ErrorResponse details ∷ [])) head
    ∙ ap (option_and_then (λ (u : Awaits). accepts u (front ++ ErrorResponse details ∷ []))) (row_next width row w.0)
    ∙ rows_broken width front missing rows tag details w.1 n tails

pub one_front : (x : BackendMessage) (front missing : List BackendMessage) → missing ≢ [] → front ++ missing ≡ x ∷ [] → front ≡ []
one_front x [] missing n e = refl
one_front x (y ∷ ys) missing n e = absurd (n (nil ys (tails e)))
  where
    tails : (y ∷ ys) ++ missing ≡ x ∷ [] → ys ++ missing ≡ []
    tails h = cc

    nil : (xs : List BackendMessage) → xs ++ missing ≡ [] → missing ≡ []
    nil [] h = h
    nil (z ∷ zs) h = absurd cc

pub broken_of : (s : Awaits) (front missing : List BackendMessage) (details : List ErrorField) → IsStart s → missing ≢ [] → IsSegment (front ++ missing) → accepts s (front ++ ErrorResponse details ∷ []) ≡ Some AfterError
broken_of s front missing details i n (inl c) = ap (λ (f : List BackendMessage). accepts s (f ++ ErrorResponse details ∷ [])) (one_front (CommandComplete c.0) front missing n c.1) ∙ error_accepted s details i
broken_of s front missing details i n (inr (inr e)) = ap (λ (f : List BackendMessage). accepts s (f ++ ErrorResponse details ∷ [])) (one_front EmptyQueryResponse front missing n e) ∙ error_accepted s details i
broken_of s [] missing details i n (inr (inl t)) = error_accepted s details i
broken_of FirstSegment (a ∷ front) missing details i n (inr (inl t)) =
    let e = t.4 in
    let head : a ≡ RowDescription t.0 = cc in
    let tails : front ++ missing ≡ map DataRow t.1 ++ CommandComplete t.2 ∷ [] = cc in
    ap (λ (b : BackendMessage). accepts FirstSegment (b ∷ front ++ ErrorResponse details ∷ [])) head ∙ rows_broken (length t.0) front missing t.1 t.2 details t.3 n tails
broken_of FurtherSegment (a ∷ front) missing details i n (inr (inl t)) =
    let e = t.4 in
    let head : a ≡ RowDescription t.0 = cc in
    let tails : front ++ missing ≡ map DataRow t.1 ++ CommandComplete t.2 ∷ [] = cc in
    ap (λ (b : BackendMessage). accepts FurtherSegment (b ∷ front ++ ErrorResponse details ∷ [])) head ∙ rows_broken (length t.0) front missing t.1 t.2 details t.3 n tails
broken_of (RowsOf width) (a ∷ front) missing details i n (inr (inl t)) = absurd i
broken_of AfterError (a ∷ front) missing details i n (inr (inl t)) = absurd i
broken_of NothingMore (a ∷ front) missing details i n (inr (inl t)) = absurd i

last_accepted : (s : Awaits) (last : List BackendMessage) (status : TransactionStatus) → IsStart s → IsSegment last ⊎ EndsInError IsSegment last → accepts s (last ++ ReadyForQuery status ∷ []) ≡ Some NothingMore
last_accepted s last status i (inl h) = accepts_then s FurtherSegment last (ReadyForQuery status ∷ []) (segment_accepted s last i h)
last_accepted s last status i (inr b) = accepts_then s AfterError last (ReadyForQuery status ∷ []) (ap (accepts s) b.5 ∙ broken_of s b.0 b.1 b.2 i b.4 b.3)

all_accepted : (s : Awaits) (before : List (List BackendMessage)) (last : List BackendMessage) (status : TransactionStatus) → IsStart s → AllByRecursion IsSegment before → IsSegment last ⊎ EndsInError IsSegment last → accepts s (flat_map (λ rs. rs) before ++ last ++ ReadyForQuery status ∷ []) ≡ Some NothingMore
all_accepted s [] last status i h k = last_accepted s last status i k
all_accepted s (rs ∷ before) last status i h k =
    ap (accepts s) (regroup rs (flat_map (λ rs. rs) before) last (ReadyForQuery status ∷ []))
    ∙ accepts_then s FurtherSegment rs (flat_map (λ rs. rs) before ++ last ++ ReadyForQuery status ∷ []) (segment_accepted s rs i h.0)
    ∙ all_accepted FurtherSegment before last status tt h.1 k
  where
    regroup : (a b c d : List BackendMessage) → ((a ++ b) ++ c) ++ d ≡ a ++ (b ++ c ++ d)
    regroup a b c d = simp append_assoc

pub answer_accepted : (rs : List BackendMessage) → IsQueryResponse rs → accepts FirstSegment rs ≡ Some NothingMore
answer_accepted rs q = ap (accepts FirstSegment) q.are ∙ all_accepted FirstSegment q.before q.last q.status tt q.whole q.ends

-- what isn't accepted begins no response
pub refused_begins_none : (front rest : List BackendMessage) → accepts FirstSegment front ≡ None → IsQueryResponse (front ++ rest) → ⊥
refused_begins_none front rest e q =
    let whole = answer_accepted (front ++ rest) q in
    let none : accepts FirstSegment (front ++ rest) ≡ None = accepts-append FirstSegment front rest ∙ ap (option_and_then (λ (u : Awaits). accepts u rest)) e in
    absurd cc
