-- The rows of the table: what each asks, and that each call has one.
use Rattle.std.proofs.Common.{◌≡◌, ℕ, zero, suc, ◌<◌, ◌≢◌, ◌^◌, List, [], ◌∷◌, ◌++◌, map, Option, Some, None, IfSome, codes, refl, sym, ap, ◌∙◌, subst, arith, ◌⊎◌, inl, inr, ◌-◌}
use Rattle.std.specs.List.{AllByRecursion}
use Rattle.pg_wire.specs.Bytes.{HasNoNul}
use Rattle.pg_wire.specs.Frame.{Frame}
use Rattle.pg_wire.specs.Frontend.{Query, Sync, CloseStatement, HasFrontendFrame, statement_name}
use Rattle.pg_wire.specs.Backend.{BackendMessage, backend_frame, HasBackendFrame}
use Rattle.pg_wire.specs.Server.{Server}
use Rattle.pg_wire.specs.Groups.{IsBetween}
use Rattle.pg_wire.specs.Acceptor.{FirstSegment}
use Rattle.pg_request.specs.Queries.{QueryText}
use Rattle.pg_exchanges.specs.Expecting.{Step, Closes, Widths, Expected, InQuery, InSteps, behind, forget, steps_of, expected, HasWidths, MayNotFollow, BeginsKnowing}
use Rattle.pg_exchanges.specs.Answering.{closing}
use Rattle.pg_rule.specs.declared.cache.Entry.{Entry}
use Rattle.pg_rule.specs.declared.rule.Rule.{Rule}
use Rattle.pg_rule.specs.Caches.{names_in}
use Rattle.pg_rule.specs.Rules.{cleared}
use Rattle.pg_request.specs.Texts.{begin_text, commit_text, rollback_text}
use Rattle.pg_rule.specs.Rows.{Group, Asked, Run, Begin, Commit, Rollback, Clear, Ping, Flush, Close, Exchange, Plan, Main, awaited_by, known_widths, AsksOnce, MayBegin, IsRow, Asks, CanBeAsked, AsksNothing}
use Rattle.pg_request.proofs.TextLaws.{begin_said, commit_said, rollback_said}
use Rattle.pg_wire.proofs.Each.{each_end}
use Rattle.pg_wire.proofs.NameLaws.{numbered_nul_free}
use Rattle.pg_exchanges.proofs.ExpectingLaws.{refused_begins_no_group_response, starts_with_steps}
use Rattle.pg_exchanges.proofs.AcceptedLaws.{accepted_begins_query_response}
use Rattle.pg_exchanges.proofs.KindLaws.{closes_inner, closing_begins}

-- ---- each row

-- one Query, whose response is awaited from its first segment on
asks_query : (old : Rule) (asked : Asked) (sql : List ℕ) → IsRow old asked [] (Main (InQuery FirstSegment)) (Query sql ∷ []) old → HasNoNul sql → Asks old asked [] (Main (InQuery FirstSegment)) (Query sql ∷ []) old
asks_query old asked sql row h = record { row = row; can = (h, tt); is_group = inl (sql, refl); awaits = refl }

pub asks_run : (old : Rule) (query : QueryText) → HasNoNul query.sql → Asks old (Run query) [] (Main (InQuery FirstSegment)) (Query query.sql ∷ []) old
asks_run old query h = asks_query old (Run query) query.sql (refl, refl, refl) h

pub asks_begin : (old : Rule) (text : Option (List ℕ)) → old.depth < 2 ^ 64 → IfSome text HasNoNul → MayBegin text old.depth → Asks old (Begin text) [] (Main (InQuery FirstSegment)) (Query (begin_text text old.depth) ∷ []) old
asks_begin old text lt h may = asks_query old (Begin text) (begin_text text old.depth) (may, (refl, refl, refl)) (begin_said text old.depth h lt)

pub asks_commit : (old : Rule) → old.depth < 2 ^ 64 → 0 < old.depth → Asks old Commit [] (Main (InQuery FirstSegment)) (Query (commit_text (old.depth - 1)) ∷ []) old
asks_commit old lt some = asks_query old Commit (commit_text (old.depth - 1)) (some, (refl, refl, refl)) (commit_said (old.depth - 1) (omega (arith, lt)))

pub asks_rollback : (old : Rule) → old.depth < 2 ^ 64 → 0 < old.depth → Asks old Rollback [] (Main (InQuery FirstSegment)) (Query (rollback_text (old.depth - 1)) ∷ []) old
asks_rollback old lt some = asks_query old Rollback (rollback_text (old.depth - 1)) (some, (refl, refl, refl)) (rollback_said (old.depth - 1) (omega (arith, lt)))

-- each of the closes awaits one message
closes_await : (widths : Widths) (portal : Option ℕ) (names : List (List ℕ)) → steps_of widths portal (closing names) ≡ map (λ name. Closes) names
closes_await widths portal [] = refl
closes_await widths portal (name ∷ names) = ap (λ (steps : List Step). Closes ∷ steps) (closes_await (forget name widths) portal names)

closes_said : (names : List (List ℕ)) → AllByRecursion HasNoNul names → AllByRecursion HasFrontendFrame (closing names)
closes_said [] h = (tt, tt)
closes_said (name ∷ names) h = (h.0, closes_said names h.1)

names_said : (es : List Entry) → AllByRecursion (λ e. e.statement < 2 ^ 32) es → AllByRecursion HasNoNul (names_in es)
names_said [] h = tt
names_said (e ∷ es) h = each_end HasNoNul (names_in es) (statement_name e.statement) (names_said es h.1) (numbered_nul_free (codes "sqlx_s_") e.statement refl h.0)

pub asks_clear : (old : Rule) → AllByRecursion (λ e. e.statement < 2 ^ 32) old.cache.entries → old.cache.entries ≢ [] → Asks old Clear [] (Main (InSteps (map (λ name. Closes) (names_in old.cache.entries)))) (closing (names_in old.cache.entries)) (cleared old)
asks_clear old h some = record {
  row = (some, (refl, refl, refl));
  can = closes_said (names_in old.cache.entries) (names_said old.cache.entries h);
  is_group = inr (map CloseStatement (names_in old.cache.entries), closes_inner (names_in old.cache.entries), refl);
  awaits = starts_with_steps [] (map CloseStatement (names_in old.cache.entries)) (closes_inner (names_in old.cache.entries)) ∙ ap InSteps (closes_await [] None (names_in old.cache.entries));
}

pub asks_ping : (old : Rule) → Asks old Ping [] (Main (InSteps [])) (Sync ∷ []) old
asks_ping old = record { row = (refl, refl, refl); can = (tt, tt); is_group = inr ([], tt, refl); awaits = refl }

-- ---- the table as a whole

abbrev HasRow : Rule → Asked → Type 0
HasRow old asked = (done : List Exchange) × (plan : Plan) × (group : Group) × (rule : Rule) × Asks old asked done plan group rule

none_or_some : (n : ℕ) → (n ≡ 0) ⊎ (0 < n)
none_or_some zero = inl refl
none_or_some (suc n) = inr (omega arith)

row_of_commit : (old : Rule) → old.depth < 2 ^ 64 → (old.depth ≡ 0) ⊎ (0 < old.depth) → AsksNothing old Commit ⊎ HasRow old Commit
row_of_commit old lt (inl e) = inl e
row_of_commit old lt (inr some) = inr ([], Main (InQuery FirstSegment), Query (commit_text (old.depth - 1)) ∷ [], old, asks_commit old lt some)

row_of_rollback : (old : Rule) → old.depth < 2 ^ 64 → (old.depth ≡ 0) ⊎ (0 < old.depth) → AsksNothing old Rollback ⊎ HasRow old Rollback
row_of_rollback old lt (inl e) = inl e
row_of_rollback old lt (inr some) = inr ([], Main (InQuery FirstSegment), Query (rollback_text (old.depth - 1)) ∷ [], old, asks_rollback old lt some)

row_of_clear : (old : Rule) (es : List Entry) → old.cache.entries ≡ es → AllByRecursion (λ e. e.statement < 2 ^ 32) old.cache.entries → AsksNothing old Clear ⊎ HasRow old Clear
row_of_clear old [] e h = inl e
row_of_clear old (x ∷ es) e h = inr ([], Main (InSteps (map (λ name. Closes) (names_in old.cache.entries))), closing (names_in old.cache.entries), cleared old, asks_clear old h (λ n. absurd cc))

-- each call that can be asked has a row, or asks nothing
pub has_row : (old : Rule) (asked : Asked) → old.depth < 2 ^ 64 → CanBeAsked old asked → AsksNothing old asked ⊎ HasRow old asked
has_row old (Run query) lt can = inr ([], Main (InQuery FirstSegment), Query query.sql ∷ [], old, asks_run old query can)
has_row old (Begin text) lt can = inr ([], Main (InQuery FirstSegment), Query (begin_text text old.depth) ∷ [], old, asks_begin old text lt can.0 can.1)
has_row old Commit lt can = row_of_commit old lt (none_or_some old.depth)
has_row old Rollback lt can = row_of_rollback old lt (none_or_some old.depth)
has_row old Clear lt can = row_of_clear old old.cache.entries refl can
has_row old Ping lt can = inr ([], Main (InSteps []), Sync ∷ [], old, asks_ping old)
has_row old Flush lt can = inl tt
has_row old Close lt can = inl tt

-- and never both
pub nothing_or_row : (old : Rule) (asked : Asked) (done : List Exchange) (plan : Plan) (group : Group) (rule : Rule) → AsksNothing old asked → Asks old asked done plan group rule → ⊥
nothing_or_row old (Run query) done plan group rule n a = n
nothing_or_row old (Begin text) done plan group rule n a = n
nothing_or_row old Commit done (Main awaits) group rule n a = absurd (omega (arith, n, a.row.0))
nothing_or_row old Rollback done (Main awaits) group rule n a = absurd (omega (arith, n, a.row.0))
nothing_or_row old Clear done (Main awaits) group rule n a = a.row.0 n
nothing_or_row old Ping done plan group rule n a = n
nothing_or_row old Flush done (Main awaits) group rule n a = a.row
nothing_or_row old Close done (Main awaits) group rule n a = a.row

-- what a row asks first, by the call and what is known
abbrev first_group : Rule → Asked → Group
first_group old (Run query) = Query query.sql ∷ []
first_group old (Begin text) = Query (begin_text text old.depth) ∷ []
first_group old Commit = Query (commit_text (old.depth - 1)) ∷ []
first_group old Rollback = Query (rollback_text (old.depth - 1)) ∷ []
first_group old Clear = closing (names_in old.cache.entries)
first_group old _ = Sync ∷ []

abbrev next_rule : Rule → Asked → Rule
next_rule old Clear = cleared old
next_rule old _ = old

main_once : (old : Rule) (asked : Asked) (done : List Exchange) (awaits : Expected) (group : Group) (rule : Rule) → IsRow old asked done (Main awaits) group rule → AsksOnce done group rule (first_group old asked) (next_rule old asked)
main_once old (Run query) done awaits group rule r = r
main_once old (Begin text) done awaits group rule r = r.1
main_once old Commit done awaits group rule r = r.1
main_once old Rollback done awaits group rule r = r.1
main_once old Clear done awaits group rule r = r.1
main_once old Ping done awaits group rule r = r
main_once old Flush done awaits group rule r = absurd r
main_once old Close done awaits group rule r = absurd r

-- a call has one row
pub one_row : (old : Rule) (asked : Asked) (done other : List Exchange) (plan : Plan) (second : Plan) (group next : Group) (rule after : Rule) → Asks old asked done plan group rule → Asks old asked other second next after → (done ≡ other) × (awaited_by plan ≡ awaited_by second) × (group ≡ next) × (rule ≡ after)
one_row old asked done other (Main awaits) (Main awaited) group next rule after a b =
    let x = main_once old asked done awaits group rule a.row in
    let y = main_once old asked other awaited next after b.row in
    let groups : group ≡ next = x.1 ∙ sym y.1 in
    let rules : rule ≡ after = x.2 ∙ sym y.2 in
    (x.0 ∙ sym y.0, sym a.awaits ∙ ap (λ (g : Group). expected (known_widths rule done) g) groups ∙ ap (λ (r : Rule). expected (known_widths r other) next) rules ∙ b.awaits, groups, rules)

-- ---- the response

-- what is refused begins no response to the group of a row
pub refused_by_row : (old : Rule) (asked : Asked) (done : List Exchange) (plan : Plan) (group : Group) (rule : Rule) (own : List BackendMessage) (e : Expected) (frame : Frame) → Asks old asked done plan group rule → AllByRecursion HasBackendFrame own
    → behind (awaited_by plan) own ≡ Some e → MayNotFollow e frame → BeginsKnowing (known_widths rule done) group (map backend_frame own ++ frame ∷ []) → ⊥
refused_by_row old asked done plan group rule own e frame a h k n = refused_begins_no_group_response (known_widths rule done) group own e frame a.is_group h (ap (λ (x : Expected). behind x own) a.awaits ∙ k) n

accepted_by_group : (widths : Widths) (old : Rule) (asked : Asked) (server : Server) (own : List BackendMessage) (e : Expected) → IsBetween server → HasWidths server widths → behind (expected widths (first_group old asked)) own ≡ Some e → AllByRecursion HasBackendFrame own
    → BeginsKnowing widths (first_group old asked) (map backend_frame own)
accepted_by_group widths old (Run query) server own e b w k h = accepted_begins_query_response query.sql widths server own e b w k h
accepted_by_group widths old (Begin text) server own e b w k h = accepted_begins_query_response (begin_text text old.depth) widths server own e b w k h
accepted_by_group widths old Commit server own e b w k h = accepted_begins_query_response (commit_text (old.depth - 1)) widths server own e b w k h
accepted_by_group widths old Rollback server own e b w k h = accepted_begins_query_response (rollback_text (old.depth - 1)) widths server own e b w k h
accepted_by_group widths old Clear server own e b w k h = closing_begins widths server (names_in old.cache.entries) own e b w k h
accepted_by_group widths old Ping server own e b w k h = closing_begins widths server [] own e b w k h
accepted_by_group widths old Flush server own e b w k h = closing_begins widths server [] own e b w k h
accepted_by_group widths old Close server own e b w k h = closing_begins widths server [] own e b w k h

-- and what is accepted begins one
pub accepted_by_row : (old : Rule) (asked : Asked) (done : List Exchange) (plan : Plan) (group : Group) (rule : Rule) (server : Server) (own : List BackendMessage) (e : Expected) → Asks old asked done plan group rule → IsBetween server → HasWidths server (known_widths rule done)
    → behind (awaited_by plan) own ≡ Some e → AllByRecursion HasBackendFrame own → BeginsKnowing (known_widths rule done) group (map backend_frame own)
accepted_by_row old asked done (Main awaits) group rule server own e a b w k h =
    let x = main_once old asked done awaits group rule a.row in
    subst (λ (g : Group). BeginsKnowing (known_widths rule done) g (map backend_frame own)) (sym x.1)
    (accepted_by_group (known_widths rule done) old asked server own e b w (ap (λ (g : Group). behind (expected (known_widths rule done) g) own) (sym x.1) ∙ ap (λ (y : Expected). behind y own) a.awaits ∙ k) h)
