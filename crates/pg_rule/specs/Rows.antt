-- The request rule: which group a call queues behind the exchanges that it had so far, by what is known of the session (PostgreSQL manual,
-- "Message Flow", "Simple Query", "Extended Query").
use Rattle.std.specs.Prelude.{◌≡◌, ◌≢◌, ℕ, ◌<◌, ◌^◌, List, [], ◌∷◌, Option, Some, None, IfSome, nat_eq, if◌then◌else◌, ◌-◌}
use Rattle.std.specs.List.{AllByRecursion}
use Rattle.pg_wire.specs.Bytes.{HasNoNul}
use Rattle.pg_wire.specs.Frontend.{FrontendMessage, HasFrontendFrame, Query, Sync, Terminate}
use Rattle.pg_wire.specs.Backend.{BackendMessage}
use Rattle.pg_wire.specs.Groups.{IsGroup}
use Rattle.pg_request.specs.Queries.{QueryText}
use Rattle.pg_exchanges.specs.Expecting.{Widths, Expected, expected}
use Rattle.pg_rule.specs.declared.rule.Rule.{Rule}
use Rattle.pg_exchanges.specs.Answering.{closing}
use Rattle.pg_rule.specs.Caches.{widths_in, names_in}
use Rattle.pg_rule.specs.Rules.{opened, closed, cleared}
use Rattle.pg_request.specs.Texts.{begin_text, commit_text, rollback_text}

abbrev pub Group : Type 0
Group = List FrontendMessage

-- what a call asks of a session: that a query is run, in whichever way its rows and counts are shown; that a transaction or a savepoint is
-- opened, by a text of the caller's own where there is one; that it is committed, or rolled back; that all statements that are kept are closed; a
-- sign of life; that what is unsent is sent and what is owed is read; the end of the session
pub data Asked : Type 0 where
  Run : QueryText → Asked
  Begin : (text : Option (List ℕ)) → Asked
  Commit : Asked
  Rollback : Asked
  Clear : Asked
  Ping : Asked
  Flush : Asked
  Close : Asked

-- a group, and what came in response to it
pub record Exchange : Type 0 where
  pub group : Group
  pub response : List BackendMessage

-- what a group is for, and what its response awaits: it is the call's own
pub data Plan : Type 0 where
  Main : (awaits : Expected) → Plan

abbrev pub awaited_by : Plan → Expected
awaited_by (Main awaits) = awaits

-- what is known of the columns of statements: of those that are kept
abbrev pub known_widths : Rule → List Exchange → Widths
known_widths rule done = widths_in rule.cache.entries

-- ---- the table

-- a call of one group, and what is known then
abbrev pub AsksOnce : List Exchange → Group → Rule → Group → Rule → Type 0
AsksOnce done group rule asked next = (done ≡ []) × (group ≡ asked) × (rule ≡ next)

-- a text of the caller's own opens a transaction, and no savepoint
abbrev pub MayBegin : Option (List ℕ) → ℕ → Type 0
MayBegin None depth = Unit {0}
MayBegin (Some sql) depth = depth ≡ 0

-- the group whose response is the call's own
abbrev pub IsMain : Rule → Asked → List Exchange → Group → Rule → Type 0
IsMain old (Run query) done group rule = AsksOnce done group rule (Query query.sql ∷ []) old
IsMain old (Begin text) done group rule = MayBegin text old.depth × AsksOnce done group rule (Query (begin_text text old.depth) ∷ []) old
IsMain old Commit done group rule = (0 < old.depth) × AsksOnce done group rule (Query (commit_text (old.depth - 1)) ∷ []) old
IsMain old Rollback done group rule = (0 < old.depth) × AsksOnce done group rule (Query (rollback_text (old.depth - 1)) ∷ []) old
IsMain old Clear done group rule = (old.cache.entries ≢ []) × AsksOnce done group rule (closing (names_in old.cache.entries)) (cleared old)
IsMain old Ping done group rule = AsksOnce done group rule (Sync ∷ []) old
IsMain old Flush done group rule = ⊥
IsMain old Close done group rule = ⊥

abbrev pub IsRow : Rule → Asked → List Exchange → Plan → Group → Rule → Type 0
IsRow old asked done (Main awaits) group rule = IsMain old asked done group rule

-- From what was known as the call began, it queues this group behind these exchanges; then this is known, and the response awaits what the
-- plan says.
pub record Asks (old : Rule) (asked : Asked) (done : List Exchange) (plan : Plan) (group : Group) (rule : Rule) : Type 0 where
  pub row : IsRow old asked done plan group rule
  pub can : AllByRecursion HasFrontendFrame group
  pub is_group : IsGroup group
  pub awaits : expected (known_widths rule done) group ≡ awaited_by plan

-- its texts can be said, its own text opens no savepoint, and numbers take four bytes
abbrev pub CanBeAsked : Rule → Asked → Type 0
CanBeAsked old (Run query) = HasNoNul query.sql
CanBeAsked old (Begin text) = IfSome text HasNoNul × MayBegin text old.depth
CanBeAsked old Clear = AllByRecursion (λ e. e.statement < 2 ^ 32) old.cache.entries
CanBeAsked old _ = Unit {0}

-- the calls that queue no group: where nothing is open there is nothing to end, and where nothing is kept there is nothing to close
abbrev pub AsksNothing : Rule → Asked → Type 0
AsksNothing old Commit = old.depth ≡ 0
AsksNothing old Rollback = old.depth ≡ 0
AsksNothing old Clear = old.cache.entries ≡ []
AsksNothing old Flush = Unit {0}
AsksNothing old Close = Unit {0}
AsksNothing old _ = ⊥

-- the message that ends the session, and no group ("Termination")
abbrev pub farewell : Asked → List FrontendMessage
farewell Close = Terminate ∷ []
farewell _ = []

-- ---- behind the calls

-- what is known once the call went well
abbrev pub settled : Asked → Rule → Rule
settled (Begin text) rule = opened rule
settled Commit rule = closed rule
settled Rollback rule = closed rule
settled _ rule = rule

-- a rollback that no call asks for, as where a transaction is let go: it waits for no reply
abbrev pub start_rollback : Rule → List Group
start_rollback rule = if nat_eq rule.depth 0 then [] else (Query (rollback_text (rule.depth - 1)) ∷ []) ∷ []

-- a begin that isn't Ok is followed by this, once its group was queued and where it would have opened the transaction
abbrev pub rolled_back : Rule → Asked → List Group
rolled_back old (Begin text) = if nat_eq old.depth 0 then start_rollback (opened old) else []
rolled_back old _ = []
