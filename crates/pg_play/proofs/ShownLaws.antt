-- What a connection's call shows and answers, and what an outcome tells of it.
use Rattle.std.proofs.Common.{◌≡◌, ◌≢◌, ℕ, ◌-◌, ◌^◌, min, Bool, true, false, cond, List, [], ◌∷◌, ◌++◌, map, filter, take, sum_by, refl, sym, ap, ◌∙◌, arith, append-nil, Option, Some, None, Ok, Err, zero, suc}
use Rattle.pg_wire.specs.declared.status.TransactionStatus.TheVariants as statuses
use Rattle.pg_wire.specs.declared.status.TransactionStatus.{TransactionStatus}
use Rattle.std.proofs.lemmas.List.{map-append}
use Rattle.std.proofs.lemmas.List.Sums.{sum_by-append}
use Rattle.pg_wire.specs.declared.error.Error.TheVariants as errors
use Rattle.pg_wire.specs.Backend.{BackendMessage, DataRow, CommandComplete, BackendCopyData}
use Rattle.pg_rows.specs.declared.heading.Heading.{Heading}
use Rattle.pg_rows.specs.Rows.{RowSeen}
use Rattle.pg_wire.specs.Server.{IsPrefixOf}
use Rattle.pg_call.specs.declared.kind.Kind.{Kind}
use Rattle.pg_call.specs.declared.kind.Kind.TheVariants as kinds
use Rattle.pg_call.specs.declared.kind.How.{How}
use Rattle.pg_call.specs.declared.kind.How.TheVariants as hows
use Rattle.pg_call.specs.declared.answer.CallItem.{CallItem}
use Rattle.pg_call.specs.declared.answer.CallItem.TheVariants as call_items
use Rattle.pg_call.specs.declared.answer.CallAnswer.{CallAnswer}
use Rattle.pg_call.specs.declared.answer.CallAnswer.TheVariants as call_answers
use Rattle.pg_call.specs.Requests.{kind_of}
use Rattle.pg_call.specs.Calls.{answer_by}
use Rattle.pg_call.specs.Items.{yields, shown, rows_in, count_in, total_of, first_row, answer_to, news_of, heading_by, item_by, items_of, own_items}
use Rattle.pg_call.specs.Items as raw
use Rattle.pg_call.proofs.FitLaws.{the_ok}
use Rattle.pg_report.specs.declared.outcome.Item.{Item}
use Rattle.pg_report.specs.declared.outcome.Item.TheVariants.{Row, Count, Piece}
use Rattle.pg_report.specs.declared.outcome.Answer.{Answer}
use Rattle.pg_script.specs.declared.step.Call.{Call}
use Rattle.pg_script.specs.declared.step.Call.TheVariants as calls
use Rattle.pg_script.specs.declared.step.Parting.TheVariants as partings
use Rattle.pg_play.specs.Calls.{AnswersBy}
use Rattle.pg_play.specs.Shown.{request_of, item_in, items_in, is_row, is_count, is_result, is_piece, count_of, shown_as, shown_by, waits_how, waits_to_show, answered_how, answered_by, wants_how, wants_row, item_of, one_row, items_with, answer_of, begins, acts_at_once, is_release, IsUncopied, asked_of, parting_of}

-- the items of a response, told
pub items_told : (h : Heading) (ms : List BackendMessage) → items_in ms ≡ map item_of (items_of h ms)
items_told h [] = refl
items_told h (m ∷ ms) =
    let next = items_of (heading_by h (news_of m)) ms in
    ap (λ (t : List Item). t ++ items_in ms) (one h m) ∙ ap (λ (t : List Item). map item_of (item_by h (news_of m)) ++ t) (items_told (heading_by h (news_of m)) ms) ∙ sym (map-append item_of (item_by h (news_of m)) next)
  where
    one : (h : Heading) (m : BackendMessage) → item_in m ≡ map item_of (item_by h (news_of m))
    one h (DataRow values) = refl
    one h (CommandComplete tag) = refl
    one h (BackendCopyData bytes) = refl
    one h _ = refl

pub none_shown : (kind : Kind) (xs : List CallItem) → ((x : CallItem) → yields kind x ≡ false) → shown kind xs ≡ []
none_shown kind [] f = refl
none_shown kind (x ∷ xs) f = ap (λ (b : Bool). cond b (x ∷ shown kind xs) (shown kind xs)) (f x) ∙ none_shown kind xs f

how_waits : (how : How) (xs : List CallItem) → waits_how (Some how) ≡ true → shown (kinds.Run how) xs ≡ []
how_waits hows.FetchAll xs e = none_shown (kinds.Run hows.FetchAll) xs (λ x. refl)
how_waits hows.FetchOptional xs e = none_shown (kinds.Run hows.FetchOptional) xs (λ x. refl)
how_waits hows.FetchOne xs e = none_shown (kinds.Run hows.FetchOne) xs (λ x. refl)
how_waits _ xs e = absurd cc

-- these show nothing as it comes
pub waits_none : (d : ℕ) (call : Call) (xs : List CallItem) → waits_to_show call ≡ true → shown (kind_of (request_of d call)) xs ≡ []
waits_none d (calls.Execute query) xs e = how_waits hows.Execute xs e
waits_none d (calls.ExecuteMany query) xs e = how_waits hows.ExecuteMany xs e
waits_none d (calls.Fetch query) xs e = how_waits hows.Fetch xs e
waits_none d (calls.FetchMany query) xs e = how_waits hows.FetchMany xs e
waits_none d (calls.FetchAll query) xs e = how_waits hows.FetchAll xs e
waits_none d (calls.FetchOptional query) xs e = how_waits hows.FetchOptional xs e
waits_none d (calls.FetchOne query) xs e = how_waits hows.FetchOne xs e
waits_none d (calls.Run bound) xs e = how_waits bound.how xs e
waits_none d _ xs e = absurd cc

counts_shown : (xs : List CallItem) → map item_of (shown (kinds.Run hows.ExecuteMany) xs) ≡ filter is_count (map item_of xs)
counts_shown [] = refl
counts_shown (call_items.Row row ∷ xs) = counts_shown xs
counts_shown (call_items.Piece bytes ∷ xs) = counts_shown xs
counts_shown (call_items.Count n ∷ xs) = ap (λ (t : List Item). Count n.rows ∷ t) (counts_shown xs)

rows_shown : (xs : List CallItem) → map item_of (shown (kinds.Run hows.Fetch) xs) ≡ filter is_row (map item_of xs)
rows_shown [] = refl
rows_shown (call_items.Row row ∷ xs) = ap (λ (t : List Item). Row row.values ∷ t) (rows_shown xs)
rows_shown (call_items.Count n ∷ xs) = rows_shown xs
rows_shown (call_items.Piece bytes ∷ xs) = rows_shown xs

all_shown : (xs : List CallItem) → map item_of (shown (kinds.Run hows.FetchMany) xs) ≡ filter is_result (map item_of xs)
all_shown [] = refl
all_shown (call_items.Row row ∷ xs) = ap (λ (t : List Item). Row row.values ∷ t) (all_shown xs)
all_shown (call_items.Count n ∷ xs) = ap (λ (t : List Item). Count n.rows ∷ t) (all_shown xs)
all_shown (call_items.Piece bytes ∷ xs) = all_shown xs

pieces_shown : (xs : List CallItem) → map item_of (shown kinds.CopyOut xs) ≡ filter is_piece (map item_of xs)
pieces_shown [] = refl
pieces_shown (call_items.Row row ∷ xs) = pieces_shown xs
pieces_shown (call_items.Count n ∷ xs) = pieces_shown xs
pieces_shown (call_items.Piece bytes ∷ xs) = ap (λ (t : List Item). Piece bytes ∷ t) (pieces_shown xs)

rows_told : (xs : List CallItem) → map (λ (row : RowSeen). Row row.values) (rows_in xs) ≡ filter is_row (map item_of xs)
rows_told [] = refl
rows_told (call_items.Row row ∷ xs) = ap (λ (t : List Item). Row row.values ∷ t) (rows_told xs)
rows_told (call_items.Count n ∷ xs) = rows_told xs
rows_told (call_items.Piece bytes ∷ xs) = rows_told xs

first_told : (rows : List RowSeen) → one_row (first_row rows) ≡ take 1 (map (λ (row : RowSeen). Row row.values) rows)
first_told [] = refl
first_told (row ∷ rows) = refl

row_told : (xs : List CallItem) → one_row (first_row (rows_in xs)) ≡ take 1 (filter is_row (map item_of xs))
row_told xs = first_told (rows_in xs) ∙ ap (take 1) (rows_told xs)

-- what comes at once is a front of what the call shows
how_front : (how : How) (xs : List CallItem) → IsPrefixOf (map item_of (shown (kinds.Run how) xs)) (shown_as how (map item_of xs))
how_front hows.Execute xs = rw (none_shown (kinds.Run hows.Execute) xs (λ x. refl)) ([], refl)
how_front hows.ExecuteMany xs = ([], append-nil _ ∙ counts_shown xs)
how_front hows.Fetch xs = ([], append-nil _ ∙ rows_shown xs)
how_front hows.FetchMany xs = ([], append-nil _ ∙ all_shown xs)
how_front hows.FetchAll xs = rw (none_shown (kinds.Run hows.FetchAll) xs (λ x. refl)) (filter is_row (map item_of xs), refl)
how_front hows.FetchOptional xs = rw (none_shown (kinds.Run hows.FetchOptional) xs (λ x. refl)) (take 1 (filter is_row (map item_of xs)), refl)
how_front hows.FetchOne xs = rw (none_shown (kinds.Run hows.FetchOne) xs (λ x. refl)) (take 1 (filter is_row (map item_of xs)), refl)

pub shown_front : (d : ℕ) (call : Call) (xs : List CallItem) → IsPrefixOf (map item_of (shown (kind_of (request_of d call)) xs)) (shown_by call (map item_of xs))
shown_front d (calls.Execute query) xs = how_front hows.Execute xs
shown_front d (calls.ExecuteMany query) xs = how_front hows.ExecuteMany xs
shown_front d (calls.Fetch query) xs = how_front hows.Fetch xs
shown_front d (calls.FetchMany query) xs = how_front hows.FetchMany xs
shown_front d (calls.FetchAll query) xs = how_front hows.FetchAll xs
shown_front d (calls.FetchOptional query) xs = how_front hows.FetchOptional xs
shown_front d (calls.FetchOne query) xs = how_front hows.FetchOne xs
shown_front d (calls.Run bound) xs = how_front bound.how xs
shown_front d (calls.Prepare preparation) xs = rw (none_shown kinds.Flush xs (λ x. refl)) ([], refl)
shown_front d calls.Clear xs = rw (none_shown kinds.Flush xs (λ x. refl)) ([], refl)
shown_front d (calls.Evict eviction) xs = rw (none_shown kinds.Describe xs (λ x. refl)) ([], refl)
shown_front d (calls.Look lookup) xs = rw (none_shown kinds.Describe xs (λ x. refl)) ([], refl)
shown_front d (calls.Fill filling) xs = rw (none_shown kinds.Describe xs (λ x. refl)) ([], refl)
shown_front d (calls.Tell prepared) xs = rw (none_shown kinds.Prepare xs (λ x. refl)) ([], refl)
shown_front d (calls.CloseAll statements) xs = rw (none_shown kinds.Clear xs (λ x. refl)) ([], refl)
shown_front d (calls.Describe extended) xs = rw (none_shown kinds.Describe xs (λ x. refl)) ([], refl)
shown_front d calls.Ping xs = rw (none_shown kinds.Ping xs (λ x. refl)) ([], refl)
shown_front d (calls.CopyOut query) xs = ([], append-nil _ ∙ pieces_shown xs)
shown_front d (calls.Feed fed) xs = rw (none_shown kinds.CopyIn xs (λ x. refl)) ([], refl)
shown_front d calls.Flush xs = rw (none_shown kinds.Flush xs (λ x. refl)) ([], refl)
shown_front d (calls.Chain chain) xs = rw (none_shown kinds.Flush xs (λ x. refl)) ([], refl)
shown_front d calls.Begin xs = rw (none_shown kinds.Begin xs (λ x. refl)) ([], refl)
shown_front d (calls.BeginWith query) xs = rw (none_shown kinds.Begin xs (λ x. refl)) ([], refl)
shown_front zero calls.Commit xs = rw (none_shown kinds.Flush xs (λ x. refl)) ([], refl)
shown_front (suc left) calls.Commit xs = rw (none_shown kinds.Commit xs (λ x. refl)) ([], refl)
shown_front zero calls.Rollback xs = rw (none_shown kinds.Flush xs (λ x. refl)) ([], refl)
shown_front (suc left) calls.Rollback xs = rw (none_shown kinds.Rollback xs (λ x. refl)) ([], refl)
shown_front d calls.StartRollback xs = rw (none_shown kinds.Flush xs (λ x. refl)) ([], refl)
shown_front d (calls.Release text) xs = rw (none_shown kinds.Flush xs (λ x. refl)) ([], refl)

sum-told : (xs : List CallItem) → sum_by count_in xs ≡ sum_by count_of (map item_of xs)
sum-told [] = refl
sum-told (x ∷ xs) = sum_by-append count_in (x ∷ []) xs ∙ omega (arith, sum-told xs, same x) ∙ sym (sum_by-append count_of (item_of x ∷ []) (map item_of xs))
  where
    same : (x : CallItem) → count_in x ≡ count_of (item_of x)
    same (call_items.Row row) = refl
    same (call_items.Count n) = refl
    same (call_items.Piece bytes) = refl

-- ---- at Ok

-- all is shown
abbrev AllShown : Kind → (List Item → List Item) → List CallItem → CallAnswer → Type 0
AllShown kind told xs answer = items_with (map item_of (shown kind xs)) answer ≡ told (map item_of xs)

one_by : (first : Option RowSeen) (answer : CallAnswer) → raw.one_row first ≡ Ok answer → (row : RowSeen) × (first ≡ Some row) × (answer ≡ call_answers.OneRow (Some row))
one_by None answer e = absurd cc
one_by (Some row) answer e = (row, refl, sym (the_ok (call_answers.OneRow (Some row)) answer e))

-- a begin that is Ok
begun_unit : (status : TransactionStatus) (answer : CallAnswer) → raw.begun status ≡ Ok answer → call_answers.Unit ≡ answer
begun_unit statuses.Transaction answer e = the_ok call_answers.Unit answer e
begun_unit statuses.Idle answer e = absurd cc
begun_unit statuses.Error answer e = absurd cc

how_told : (how : How) (xs : List CallItem) (status : TransactionStatus) (answer : CallAnswer) → answer_to (kinds.Run how) xs status ≡ Ok answer → AllShown (kinds.Run how) (shown_as how) xs answer
how_told hows.Execute xs status answer e = rw (← the_ok _ answer e, none_shown (kinds.Run hows.Execute) xs (λ x. refl)) refl
how_told hows.ExecuteMany xs status answer e = rw (← the_ok _ answer e) (counts_shown xs)
how_told hows.Fetch xs status answer e = rw (← the_ok _ answer e) (rows_shown xs)
how_told hows.FetchMany xs status answer e = rw (← the_ok _ answer e) (all_shown xs)
how_told hows.FetchAll xs status answer e = rw (← the_ok _ answer e) (rows_told xs)
how_told hows.FetchOptional xs status answer e = rw (← the_ok _ answer e) (row_told xs)
how_told hows.FetchOne xs status answer e =
    let o = one_by (first_row (rows_in xs)) answer e in
    ap (items_with (map item_of (shown (kinds.Run hows.FetchOne) xs))) o.2 ∙ ap one_row (sym o.1) ∙ row_told xs

pub all_told : (d : ℕ) (call : Call) (reply : List BackendMessage) (status : TransactionStatus) (answer : CallAnswer) → AnswersBy (answer_by (request_of d call) reply status) (Ok answer) → AllShown (kind_of (request_of d call)) (shown_by call) (own_items (request_of d call) reply) answer
all_told d (calls.Execute query) reply status answer e = how_told hows.Execute (own_items (request_of d (calls.Execute query)) reply) status answer e
all_told d (calls.ExecuteMany query) reply status answer e = how_told hows.ExecuteMany (own_items (request_of d (calls.ExecuteMany query)) reply) status answer e
all_told d (calls.Fetch query) reply status answer e = how_told hows.Fetch (own_items (request_of d (calls.Fetch query)) reply) status answer e
all_told d (calls.FetchMany query) reply status answer e = how_told hows.FetchMany (own_items (request_of d (calls.FetchMany query)) reply) status answer e
all_told d (calls.FetchAll query) reply status answer e = how_told hows.FetchAll (own_items (request_of d (calls.FetchAll query)) reply) status answer e
all_told d (calls.FetchOptional query) reply status answer e = how_told hows.FetchOptional (own_items (request_of d (calls.FetchOptional query)) reply) status answer e
all_told d (calls.FetchOne query) reply status answer e = how_told hows.FetchOne (own_items (request_of d (calls.FetchOne query)) reply) status answer e
all_told d (calls.Run bound) reply status answer e = how_told bound.how (own_items (request_of d (calls.Run bound)) reply) status answer e
all_told d (calls.Prepare preparation) reply status answer e = rw (← the_ok _ answer e, none_shown kinds.Flush (own_items (request_of d (calls.Prepare preparation)) reply) (λ x. refl)) refl
all_told d calls.Clear reply status answer e = rw (← the_ok _ answer e, none_shown kinds.Flush (own_items (request_of d calls.Clear) reply) (λ x. refl)) refl
all_told d (calls.Evict eviction) reply status answer e = rw (← the_ok _ answer e, none_shown kinds.Describe (own_items (request_of d (calls.Evict eviction)) reply) (λ x. refl)) refl
all_told d (calls.Look lookup) reply status answer e = rw (← the_ok _ answer e, none_shown kinds.Describe (own_items (request_of d (calls.Look lookup)) reply) (λ x. refl)) refl
all_told d (calls.Fill filling) reply status answer e = rw (← the_ok _ answer e, none_shown kinds.Describe (own_items (request_of d (calls.Fill filling)) reply) (λ x. refl)) refl
all_told d (calls.Tell prepared) reply status answer e = rw (← the_ok _ answer e, none_shown kinds.Prepare (own_items (request_of d (calls.Tell prepared)) reply) (λ x. refl)) refl
all_told d (calls.CloseAll statements) reply status answer e = rw (← the_ok _ answer e, none_shown kinds.Clear (own_items (request_of d (calls.CloseAll statements)) reply) (λ x. refl)) refl
all_told d (calls.Describe extended) reply status answer e = rw (← the_ok _ answer e, none_shown kinds.Describe (own_items (request_of d (calls.Describe extended)) reply) (λ x. refl)) refl
all_told d calls.Ping reply status answer e = rw (← the_ok _ answer e, none_shown kinds.Ping (own_items (request_of d calls.Ping) reply) (λ x. refl)) refl
all_told d (calls.CopyOut query) reply status answer e = rw (← the_ok _ answer e) (pieces_shown (own_items (request_of d (calls.CopyOut query)) reply))
all_told d (calls.Feed fed) reply status answer e = rw (← the_ok _ answer e) (rw (none_shown kinds.CopyIn (own_items (request_of d (calls.Feed fed)) reply) (λ x. refl)) refl)
all_told d calls.Flush reply status answer e = rw (← the_ok _ answer e, none_shown kinds.Flush (own_items (request_of d calls.Flush) reply) (λ x. refl)) refl
all_told d (calls.Chain chain) reply status answer e = rw (← the_ok _ answer e, none_shown kinds.Flush (own_items (request_of d (calls.Chain chain)) reply) (λ x. refl)) refl
all_told d calls.Begin reply status answer e = rw (← begun_unit status answer e, none_shown kinds.Begin (own_items (request_of d calls.Begin) reply) (λ x. refl)) refl
all_told d (calls.BeginWith query) reply status answer e = rw (← begun_unit status answer e, none_shown kinds.Begin (own_items (request_of d (calls.BeginWith query)) reply) (λ x. refl)) refl
all_told zero calls.Commit reply status answer e = rw (← the_ok _ answer e, none_shown kinds.Flush (own_items (request_of zero calls.Commit) reply) (λ x. refl)) refl
all_told (suc left) calls.Commit reply status answer e = rw (← the_ok _ answer e, none_shown kinds.Commit (own_items (request_of (suc left) calls.Commit) reply) (λ x. refl)) refl
all_told zero calls.Rollback reply status answer e = rw (← the_ok _ answer e, none_shown kinds.Flush (own_items (request_of zero calls.Rollback) reply) (λ x. refl)) refl
all_told (suc left) calls.Rollback reply status answer e = rw (← the_ok _ answer e, none_shown kinds.Rollback (own_items (request_of (suc left) calls.Rollback) reply) (λ x. refl)) refl
all_told d calls.StartRollback reply status answer e = rw (← the_ok _ answer e, none_shown kinds.Flush (own_items (request_of d calls.StartRollback) reply) (λ x. refl)) refl
all_told d (calls.Release text) reply status answer e = rw (← the_ok _ answer e, none_shown kinds.Flush (own_items (request_of d (calls.Release text)) reply) (λ x. refl)) refl

abbrev answered_total : ℕ → Answer
answered_total n = answer_of (call_answers.Total (record { rows = min n (2 ^ 64 - 1) }))

how_answers : (how : How) (xs : List CallItem) (status : TransactionStatus) (answer : CallAnswer) → answer_to (kinds.Run how) xs status ≡ Ok answer → answer_of answer ≡ answered_how (Some how) (map item_of xs)
how_answers hows.Execute xs status answer e = rw (← the_ok _ answer e) (ap (λ (n : ℕ). answered_total n) (sum-told xs))
how_answers hows.FetchOne xs status answer e = let o = one_by (first_row (rows_in xs)) answer e in ap answer_of o.2
how_answers _ xs status answer e = rw (← the_ok _ answer e) refl

pub answer_told : (d : ℕ) (call : Call) (reply : List BackendMessage) (status : TransactionStatus) (answer : CallAnswer) → AnswersBy (answer_by (request_of d call) reply status) (Ok answer) → answer_of answer ≡ answered_by call (map item_of (own_items (request_of d call) reply))
answer_told d (calls.Execute query) reply status answer e = how_answers hows.Execute (own_items (request_of d (calls.Execute query)) reply) status answer e
answer_told d (calls.ExecuteMany query) reply status answer e = how_answers hows.ExecuteMany (own_items (request_of d (calls.ExecuteMany query)) reply) status answer e
answer_told d (calls.Fetch query) reply status answer e = how_answers hows.Fetch (own_items (request_of d (calls.Fetch query)) reply) status answer e
answer_told d (calls.FetchMany query) reply status answer e = how_answers hows.FetchMany (own_items (request_of d (calls.FetchMany query)) reply) status answer e
answer_told d (calls.FetchAll query) reply status answer e = how_answers hows.FetchAll (own_items (request_of d (calls.FetchAll query)) reply) status answer e
answer_told d (calls.FetchOptional query) reply status answer e = how_answers hows.FetchOptional (own_items (request_of d (calls.FetchOptional query)) reply) status answer e
answer_told d (calls.FetchOne query) reply status answer e = how_answers hows.FetchOne (own_items (request_of d (calls.FetchOne query)) reply) status answer e
answer_told d (calls.Run bound) reply status answer e = how_answers bound.how (own_items (request_of d (calls.Run bound)) reply) status answer e
answer_told d (calls.Prepare preparation) reply status answer e = rw (← the_ok _ answer e) refl
answer_told d calls.Clear reply status answer e = rw (← the_ok _ answer e) refl
answer_told d (calls.Evict eviction) reply status answer e = rw (← the_ok _ answer e) refl
answer_told d (calls.Look lookup) reply status answer e = rw (← the_ok _ answer e) refl
answer_told d (calls.Fill filling) reply status answer e = rw (← the_ok _ answer e) refl
answer_told d (calls.Tell prepared) reply status answer e = rw (← the_ok _ answer e) refl
answer_told d (calls.CloseAll statements) reply status answer e = rw (← the_ok _ answer e) refl
answer_told d (calls.Describe extended) reply status answer e = rw (← the_ok _ answer e) refl
answer_told d calls.Ping reply status answer e = rw (← the_ok _ answer e) refl
answer_told d (calls.CopyOut query) reply status answer e = rw (← the_ok _ answer e) refl
answer_told d (calls.Feed fed) reply status answer e = how_answers hows.Execute (own_items (request_of d (calls.Feed fed)) reply) status answer e
answer_told d calls.Flush reply status answer e = rw (← the_ok _ answer e) refl
answer_told d (calls.Chain chain) reply status answer e = rw (← the_ok _ answer e) refl
answer_told d calls.Begin reply status answer e = rw (← begun_unit status answer e) refl
answer_told d (calls.BeginWith query) reply status answer e = rw (← begun_unit status answer e) refl
answer_told zero calls.Commit reply status answer e = rw (← the_ok _ answer e) refl
answer_told (suc left) calls.Commit reply status answer e = rw (← the_ok _ answer e) refl
answer_told zero calls.Rollback reply status answer e = rw (← the_ok _ answer e) refl
answer_told (suc left) calls.Rollback reply status answer e = rw (← the_ok _ answer e) refl
answer_told d calls.StartRollback reply status answer e = rw (← the_ok _ answer e) refl
answer_told d (calls.Release text) reply status answer e = rw (← the_ok _ answer e) refl

how_has : (how : How) (xs : List CallItem) (status : TransactionStatus) (answer : CallAnswer) (items : List Item) → answer_to (kinds.Run how) xs status ≡ Ok answer → wants_how (Some how) ≡ true → items_with items answer ≢ []
how_has hows.FetchOne xs status answer items e w = λ z.
    let o = one_by (first_row (rows_in xs)) answer e in
    let some : Row o.0.values ∷ [] ≡ [] = sym (ap (items_with items) o.2) ∙ z in
    absurd cc
how_has _ xs status answer items e w = absurd cc

-- a call that must have a row has one
pub has_row : (d : ℕ) (call : Call) (reply : List BackendMessage) (status : TransactionStatus) (answer : CallAnswer) (items : List Item) → AnswersBy (answer_by (request_of d call) reply status) (Ok answer) → wants_row call ≡ true → items_with items answer ≢ []
has_row d (calls.Execute query) reply status answer items e w = how_has hows.Execute (own_items (request_of d (calls.Execute query)) reply) status answer items e w
has_row d (calls.ExecuteMany query) reply status answer items e w = how_has hows.ExecuteMany (own_items (request_of d (calls.ExecuteMany query)) reply) status answer items e w
has_row d (calls.Fetch query) reply status answer items e w = how_has hows.Fetch (own_items (request_of d (calls.Fetch query)) reply) status answer items e w
has_row d (calls.FetchMany query) reply status answer items e w = how_has hows.FetchMany (own_items (request_of d (calls.FetchMany query)) reply) status answer items e w
has_row d (calls.FetchAll query) reply status answer items e w = how_has hows.FetchAll (own_items (request_of d (calls.FetchAll query)) reply) status answer items e w
has_row d (calls.FetchOptional query) reply status answer items e w = how_has hows.FetchOptional (own_items (request_of d (calls.FetchOptional query)) reply) status answer items e w
has_row d (calls.FetchOne query) reply status answer items e w = how_has hows.FetchOne (own_items (request_of d (calls.FetchOne query)) reply) status answer items e w
has_row d (calls.Run bound) reply status answer items e w = how_has bound.how (own_items (request_of d (calls.Run bound)) reply) status answer items e w
has_row d _ reply status answer items e w = absurd cc

-- ---- where there is no row

abbrev pub IsFound : Call → List CallItem → Type 0
IsFound call xs = (wants_row call ≡ true) × (rows_in xs ≡ [])

no_first : (rows : List RowSeen) → raw.one_row (first_row rows) ≡ Err errors.RowNotFound → rows ≡ []
no_first [] e = refl
no_first (row ∷ rows) e = absurd cc

begun_found : (status : TransactionStatus) → raw.begun status ≡ Err errors.RowNotFound → ⊥
begun_found statuses.Transaction e = cc
begun_found statuses.Idle e = cc
begun_found statuses.Error e = cc

how_not_found : (how : How) (xs : List CallItem) (status : TransactionStatus) → answer_to (kinds.Run how) xs status ≡ Err errors.RowNotFound → (wants_how (Some how) ≡ true) × (rows_in xs ≡ [])
how_not_found hows.FetchOne xs status e = (refl, no_first (rows_in xs) e)
how_not_found _ xs status e = absurd cc

-- only a call that must have one fails for want of a row
pub not_found : (d : ℕ) (call : Call) (reply : List BackendMessage) (status : TransactionStatus) → AnswersBy (answer_by (request_of d call) reply status) (Err errors.RowNotFound) → IsFound call (own_items (request_of d call) reply)
not_found d (calls.Execute query) reply status e = how_not_found hows.Execute (own_items (request_of d (calls.Execute query)) reply) status e
not_found d (calls.ExecuteMany query) reply status e = how_not_found hows.ExecuteMany (own_items (request_of d (calls.ExecuteMany query)) reply) status e
not_found d (calls.Fetch query) reply status e = how_not_found hows.Fetch (own_items (request_of d (calls.Fetch query)) reply) status e
not_found d (calls.FetchMany query) reply status e = how_not_found hows.FetchMany (own_items (request_of d (calls.FetchMany query)) reply) status e
not_found d (calls.FetchAll query) reply status e = how_not_found hows.FetchAll (own_items (request_of d (calls.FetchAll query)) reply) status e
not_found d (calls.FetchOptional query) reply status e = how_not_found hows.FetchOptional (own_items (request_of d (calls.FetchOptional query)) reply) status e
not_found d (calls.FetchOne query) reply status e = how_not_found hows.FetchOne (own_items (request_of d (calls.FetchOne query)) reply) status e
not_found d (calls.Run bound) reply status e = how_not_found bound.how (own_items (request_of d (calls.Run bound)) reply) status e
not_found d (calls.Prepare preparation) reply status e = absurd cc
not_found d calls.Clear reply status e = absurd cc
not_found d (calls.Evict eviction) reply status e = absurd cc
not_found d (calls.Look lookup) reply status e = absurd cc
not_found d (calls.Fill filling) reply status e = absurd cc
not_found d (calls.Tell prepared) reply status e = absurd cc
not_found d (calls.CloseAll statements) reply status e = absurd cc
not_found d (calls.Describe extended) reply status e = absurd cc
not_found d calls.Ping reply status e = absurd cc
not_found d (calls.CopyOut query) reply status e = absurd cc
not_found d (calls.Feed fed) reply status e = absurd cc
not_found d calls.Flush reply status e = absurd cc
not_found d (calls.Chain chain) reply status e = absurd cc
not_found d calls.Begin reply status e = absurd (begun_found status e)
not_found d (calls.BeginWith query) reply status e = absurd (begun_found status e)
not_found zero calls.Commit reply status e = absurd cc
not_found (suc left) calls.Commit reply status e = absurd cc
not_found zero calls.Rollback reply status e = absurd cc
not_found (suc left) calls.Rollback reply status e = absurd cc
not_found d calls.StartRollback reply status e = absurd cc
not_found d (calls.Release text) reply status e = absurd cc

how_comes : (how : How) (xs : List CallItem) (status : TransactionStatus) (answer : CallAnswer) (items : List Item) → waits_how (Some how) ≡ false → answer_to (kinds.Run how) xs status ≡ Ok answer → items_with items answer ≡ items
how_comes hows.FetchAll xs status answer items w e = absurd cc
how_comes hows.FetchOptional xs status answer items w e = absurd cc
how_comes hows.FetchOne xs status answer items w e = absurd cc
how_comes _ xs status answer items w e = rw (← the_ok _ answer e) refl

-- the answer of a call that shows its items as they come has none
pub no_items_come : (d : ℕ) (call : Call) (reply : List BackendMessage) (status : TransactionStatus) (answer : CallAnswer) (items : List Item) → waits_to_show call ≡ false → AnswersBy (answer_by (request_of d call) reply status) (Ok answer) → items_with items answer ≡ items
no_items_come d (calls.Execute query) reply status answer items w e = how_comes hows.Execute (own_items (request_of d (calls.Execute query)) reply) status answer items w e
no_items_come d (calls.ExecuteMany query) reply status answer items w e = how_comes hows.ExecuteMany (own_items (request_of d (calls.ExecuteMany query)) reply) status answer items w e
no_items_come d (calls.Fetch query) reply status answer items w e = how_comes hows.Fetch (own_items (request_of d (calls.Fetch query)) reply) status answer items w e
no_items_come d (calls.FetchMany query) reply status answer items w e = how_comes hows.FetchMany (own_items (request_of d (calls.FetchMany query)) reply) status answer items w e
no_items_come d (calls.FetchAll query) reply status answer items w e = how_comes hows.FetchAll (own_items (request_of d (calls.FetchAll query)) reply) status answer items w e
no_items_come d (calls.FetchOptional query) reply status answer items w e = how_comes hows.FetchOptional (own_items (request_of d (calls.FetchOptional query)) reply) status answer items w e
no_items_come d (calls.FetchOne query) reply status answer items w e = how_comes hows.FetchOne (own_items (request_of d (calls.FetchOne query)) reply) status answer items w e
no_items_come d (calls.Run bound) reply status answer items w e = how_comes bound.how (own_items (request_of d (calls.Run bound)) reply) status answer items w e
no_items_come d (calls.Prepare preparation) reply status answer items w e = rw (← the_ok _ answer e) refl
no_items_come d calls.Clear reply status answer items w e = rw (← the_ok _ answer e) refl
no_items_come d (calls.Evict eviction) reply status answer items w e = rw (← the_ok _ answer e) refl
no_items_come d (calls.Look lookup) reply status answer items w e = rw (← the_ok _ answer e) refl
no_items_come d (calls.Fill filling) reply status answer items w e = rw (← the_ok _ answer e) refl
no_items_come d (calls.Tell prepared) reply status answer items w e = rw (← the_ok _ answer e) refl
no_items_come d (calls.CloseAll statements) reply status answer items w e = rw (← the_ok _ answer e) refl
no_items_come d (calls.Describe extended) reply status answer items w e = rw (← the_ok _ answer e) refl
no_items_come d calls.Ping reply status answer items w e = rw (← the_ok _ answer e) refl
no_items_come d (calls.CopyOut query) reply status answer items w e = rw (← the_ok _ answer e) refl
no_items_come d (calls.Feed fed) reply status answer items w e = rw (← the_ok _ answer e) refl
no_items_come d calls.Flush reply status answer items w e = rw (← the_ok _ answer e) refl
no_items_come d (calls.Chain chain) reply status answer items w e = rw (← the_ok _ answer e) refl
no_items_come d calls.Begin reply status answer items w e = rw (← begun_unit status answer e) refl
no_items_come d (calls.BeginWith query) reply status answer items w e = rw (← begun_unit status answer e) refl
no_items_come zero calls.Commit reply status answer items w e = rw (← the_ok _ answer e) refl
no_items_come (suc left) calls.Commit reply status answer items w e = rw (← the_ok _ answer e) refl
no_items_come zero calls.Rollback reply status answer items w e = rw (← the_ok _ answer e) refl
no_items_come (suc left) calls.Rollback reply status answer items w e = rw (← the_ok _ answer e) refl
no_items_come d calls.StartRollback reply status answer items w e = rw (← the_ok _ answer e) refl
no_items_come d (calls.Release text) reply status answer items w e = rw (← the_ok _ answer e) refl

status_fails : (status other : TransactionStatus) → raw.begun status ≡ Err (errors.BeginFailed other) → (status ≡ other) × (other ≢ statuses.Transaction)
status_fails statuses.Transaction other e = absurd cc
status_fails statuses.Idle other e =
    let same : statuses.Idle ≡ other = cc in
    (same, λ t. let x = same ∙ t in cc)
status_fails statuses.Error other e =
    let same : statuses.Error ≡ other = cc in
    (same, λ t. let x = same ∙ t in cc)

how_begins_none : (how : How) (xs : List CallItem) (status other : TransactionStatus) → answer_to (kinds.Run how) xs status ≡ Err (errors.BeginFailed other) → ⊥
how_begins_none hows.FetchOne xs status other e = row_fails (first_row (rows_in xs)) e
  where
    row_fails : (o : Option RowSeen) → raw.one_row o ≡ Err (errors.BeginFailed other) → ⊥
    row_fails None e = cc
    row_fails (Some row) e = cc
how_begins_none _ xs status other e = cc

-- only a begin fails by the status behind it, which isn't that of an open transaction
pub begun_failed : (d : ℕ) (call : Call) (reply : List BackendMessage) (status other : TransactionStatus) → AnswersBy (answer_by (request_of d call) reply status) (Err (errors.BeginFailed other)) → (begins call ≡ true) × (status ≡ other) × (other ≢ statuses.Transaction)
begun_failed d (calls.Execute query) reply status other e = absurd (how_begins_none hows.Execute (own_items (request_of d (calls.Execute query)) reply) status other e)
begun_failed d (calls.ExecuteMany query) reply status other e = absurd (how_begins_none hows.ExecuteMany (own_items (request_of d (calls.ExecuteMany query)) reply) status other e)
begun_failed d (calls.Fetch query) reply status other e = absurd (how_begins_none hows.Fetch (own_items (request_of d (calls.Fetch query)) reply) status other e)
begun_failed d (calls.FetchMany query) reply status other e = absurd (how_begins_none hows.FetchMany (own_items (request_of d (calls.FetchMany query)) reply) status other e)
begun_failed d (calls.FetchAll query) reply status other e = absurd (how_begins_none hows.FetchAll (own_items (request_of d (calls.FetchAll query)) reply) status other e)
begun_failed d (calls.FetchOptional query) reply status other e = absurd (how_begins_none hows.FetchOptional (own_items (request_of d (calls.FetchOptional query)) reply) status other e)
begun_failed d (calls.FetchOne query) reply status other e = absurd (how_begins_none hows.FetchOne (own_items (request_of d (calls.FetchOne query)) reply) status other e)
begun_failed d (calls.Run bound) reply status other e = absurd (how_begins_none bound.how (own_items (request_of d (calls.Run bound)) reply) status other e)
begun_failed d (calls.Prepare preparation) reply status other e = absurd cc
begun_failed d calls.Clear reply status other e = absurd cc
begun_failed d (calls.Evict eviction) reply status other e = absurd cc
begun_failed d (calls.Look lookup) reply status other e = absurd cc
begun_failed d (calls.Fill filling) reply status other e = absurd cc
begun_failed d (calls.Tell prepared) reply status other e = absurd cc
begun_failed d (calls.CloseAll statements) reply status other e = absurd cc
begun_failed d (calls.Describe extended) reply status other e = absurd cc
begun_failed d calls.Ping reply status other e = absurd cc
begun_failed d (calls.CopyOut query) reply status other e = absurd cc
begun_failed d (calls.Feed fed) reply status other e = absurd cc
begun_failed d calls.Flush reply status other e = absurd cc
begun_failed d (calls.Chain chain) reply status other e = absurd cc
begun_failed d calls.Begin reply status other e = let s = status_fails status other e in (refl, s.0, s.1)
begun_failed d (calls.BeginWith query) reply status other e = let s = status_fails status other e in (refl, s.0, s.1)
begun_failed zero calls.Commit reply status other e = absurd cc
begun_failed (suc left) calls.Commit reply status other e = absurd cc
begun_failed zero calls.Rollback reply status other e = absurd cc
begun_failed (suc left) calls.Rollback reply status other e = absurd cc
begun_failed d calls.StartRollback reply status other e = absurd cc
begun_failed d (calls.Release text) reply status other e = absurd cc

pub acts_later : (call : Call) → (call ≡ calls.StartRollback → ⊥) → is_release call ≡ false → acts_at_once call ≡ false
acts_later calls.StartRollback n r = absurd (n refl)
acts_later (calls.Release text) n r = absurd cc
acts_later _ n r = refl

-- what copies nothing from the client gives none up
pub plain_parts : (d : ℕ) (call : Call) → IsUncopied (asked_of d call) → parting_of call ≡ partings.None
plain_parts d (calls.Feed fed) u = absurd u
plain_parts d _ u = refl
