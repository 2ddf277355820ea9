-- The items of a reply, with more messages.
use Rattle.std.proofs.Common.{◌≡◌, ◌∙◌, ℕ, ◌+◌, ◌-◌, ◌^◌, min, Bool, true, false, cond, List, [], ◌∷◌, ◌++◌, refl, sym, ap, arith, append_assoc, append-nil, Option, None}
use Rattle.std.proofs.lemmas.List.Concat.{flat_map-append}
use Rattle.std.proofs.lemmas.List.Sums.{sum_by-append}
use Rattle.pg_wire.specs.Backend.{BackendMessage}
use Rattle.pg_rows.specs.declared.heading.Heading.{Heading}
use Rattle.pg_rows.specs.Rows.{RowSeen}
use Rattle.pg_call.specs.declared.kind.Kind.{Kind}
use Rattle.pg_call.specs.declared.answer.CallItem.{CallItem}
use Rattle.pg_call.specs.declared.answer.CallItem.TheVariants.{Row, Count, Piece}
use Rattle.pg_call.specs.declared.tally.Tally.{Tally}
use Rattle.pg_call.specs.Items.{news_of, heading_by, heading_after, parameters_by, parameters_after, item_by, items_of, row_in, rows_in, count_in, total_of, first_row, first_of, keeps_all, keeps_first, tally_of, added}
use Rattle.pg_call.specs.Hearing.{added_all}

pub items-push : (h : Heading) (ms : List BackendMessage) (m : BackendMessage) → items_of h (ms ++ m ∷ []) ≡ items_of h ms ++ item_by (heading_after h ms) (news_of m)
items-push h [] m = append-nil (item_by h (news_of m))
items-push h (x ∷ xs) m =
    ap (λ (t : List CallItem). item_by h (news_of x) ++ t) (items-push (heading_by h (news_of x)) xs m)
    ∙ sym (append_assoc (item_by h (news_of x)) (items_of (heading_by h (news_of x)) xs) (item_by (heading_after (heading_by h (news_of x)) xs) (news_of m)))

pub heading-push : (h : Heading) (ms : List BackendMessage) (m : BackendMessage) → heading_after h (ms ++ m ∷ []) ≡ heading_by (heading_after h ms) (news_of m)
heading-push h [] m = refl
heading-push h (x ∷ xs) m = heading-push (heading_by h (news_of x)) xs m

pub parameters-push : (types : List ℕ) (ms : List BackendMessage) (m : BackendMessage) → parameters_after types (ms ++ m ∷ []) ≡ parameters_by (parameters_after types ms) (news_of m)
parameters-push types [] m = refl
parameters-push types (x ∷ xs) m = parameters-push (parameters_by types (news_of x)) xs m

rows-push : (xs : List CallItem) (i : CallItem) → rows_in (xs ++ i ∷ []) ≡ rows_in xs ++ row_in i
rows-push xs i = flat_map-append row_in xs (i ∷ []) ∙ ap (λ (t : List RowSeen). rows_in xs ++ t) (append-nil (row_in i))

first-push : (rows : List RowSeen) (row : RowSeen) → first_row (rows ++ row ∷ []) ≡ first_of (first_row rows) row
first-push [] row = refl
first-push (r ∷ rows) row = refl

abbrev tally : ℕ → List RowSeen → Option RowSeen → Tally
tally total rows first = record { total = total; rows = rows; first = first }

-- one item more
push_row : (a b : Bool) (t t' : ℕ) (rows rows' : List RowSeen) (row : RowSeen) → t ≡ t' → rows' ≡ rows ++ row ∷ []
    → tally t (cond a (cond a rows [] ++ row ∷ []) (cond a rows [])) (cond b (first_of (cond b (first_row rows) None) row) (cond b (first_row rows) None)) ≡ tally t' (cond a rows' []) (cond b (first_row rows') None)
push_row true true t t' rows rows' row e f = rw (e, f, first-push rows row) refl
push_row true false t t' rows rows' row e f = rw (e, f) refl
push_row false true t t' rows rows' row e f = rw (e, f, first-push rows row) refl
push_row false false t t' rows rows' row e f = rw e refl

push_count : (kind : Kind) (t t' : ℕ) (rows rows' : List RowSeen) → t ≡ t' → rows' ≡ rows
    → tally t (cond (keeps_all kind) rows []) (cond (keeps_first kind) (first_row rows) None) ≡ tally t' (cond (keeps_all kind) rows' []) (cond (keeps_first kind) (first_row rows') None)
push_count kind t t' rows rows' e f = rw (e, f) refl

total-push : (xs : List CallItem) (i : CallItem) → min (total_of xs + count_in i) (2 ^ 64 - 1) ≡ total_of (xs ++ i ∷ [])
total-push xs i = omega (arith, sum_by-append count_in xs (i ∷ []))

total-piece : (xs : List CallItem) (bytes : List ℕ) → total_of xs ≡ total_of (xs ++ Piece bytes ∷ [])
total-piece xs bytes = omega (arith, sum_by-append count_in xs (Piece bytes ∷ []))

total-row : (xs : List CallItem) (row : RowSeen) → total_of xs ≡ total_of (xs ++ Row row ∷ [])
total-row xs row = omega (arith, sum_by-append count_in xs (Row row ∷ []))

pub tally-push : (kind : Kind) (xs : List CallItem) (i : CallItem) → added kind (tally_of kind xs) i ≡ tally_of kind (xs ++ i ∷ [])
tally-push kind xs (Count n) = push_count kind _ _ (rows_in xs) (rows_in (xs ++ Count n ∷ [])) (total-push xs (Count n)) (rows-push xs (Count n) ∙ append-nil (rows_in xs))
tally-push kind xs (Piece bytes) = push_count kind _ _ (rows_in xs) (rows_in (xs ++ Piece bytes ∷ [])) (total-piece xs bytes) (rows-push xs (Piece bytes) ∙ append-nil (rows_in xs))
tally-push kind xs (Row row) = push_row (keeps_all kind) (keeps_first kind) _ _ (rows_in xs) (rows_in (xs ++ Row row ∷ [])) row (total-row xs row) (rows-push xs (Row row))

pub tally-more : (kind : Kind) (xs more : List CallItem) → added_all kind (tally_of kind xs) more ≡ tally_of kind (xs ++ more)
tally-more kind xs [] = ap (tally_of kind) (sym (append-nil xs))
tally-more kind xs (i ∷ is) = ap (λ (t : Tally). added_all kind t is) (tally-push kind xs i) ∙ tally-more kind (xs ++ i ∷ []) is ∙ ap (tally_of kind) (append_assoc xs (i ∷ []) is)
