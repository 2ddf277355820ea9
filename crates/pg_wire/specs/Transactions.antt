-- Which transaction status ReadyForQuery may tell (PostgreSQL manual, "Message Formats", ReadyForQuery; SQL commands BEGIN, COMMIT,
-- ROLLBACK, ROLLBACK TO SAVEPOINT). The rule knows the texts that this project sends for transactions; of every other text it says that it
-- opens and ends none. The texts with which a caller opens a transaction are a parameter, `openings`.
use Rattle.pg_wire.specs.declared.status.TransactionStatus.{TransactionStatus}
use Rattle.std.specs.Prelude.{◌≡◌, ℕ, Bool, true, false, cond, ◌⊎◌, ◌||◌, List, [], ◌∷◌, Option, Some, None, codes, bytes_eq, nat_eq, if◌then◌else◌}
use Rattle.std.specs.List.{list_any, starts_with}
use Rattle.pg_wire.specs.Frame.{Frame}
use Rattle.pg_wire.specs.Frontend.{FrontendMessage, Query}
use Rattle.pg_wire.specs.Backend.{BackendMessage, ReadyForQuery, CommandComplete, ErrorResponse}
use Rattle.pg_wire.specs.Copying.{AreCopyReplies}
use Rattle.pg_wire.specs.declared.status.TransactionStatus.TheVariants as statuses

abbrev pub is_idle : TransactionStatus → Bool
is_idle statuses.Idle = true
is_idle _ = false

abbrev pub rolls_back_to : List ℕ → Bool
rolls_back_to sql = starts_with nat_eq sql (codes "ROLLBACK TO ")

-- behind a Query that went well: BEGIN opens a transaction, COMMIT and ROLLBACK end it, a caller's opening text may open one or not,
-- ROLLBACK TO repairs the open one, and every other text keeps the status
abbrev pub StatusAfterSuccess : List (List ℕ) → TransactionStatus → List ℕ → TransactionStatus → Type 0
StatusAfterSuccess openings before sql after =
    cond (bytes_eq sql (codes "BEGIN")) (after ≡ statuses.Transaction)
    (cond (bytes_eq sql (codes "COMMIT") || bytes_eq sql (codes "ROLLBACK")) (after ≡ statuses.Idle)
    (cond (list_any (bytes_eq sql) openings) ((after ≡ statuses.Transaction) ⊎ (after ≡ before))
    (cond (rolls_back_to sql) (after ≡ (if is_idle before then statuses.Idle else statuses.Transaction))
    (after ≡ before))))

-- behind a Query that failed: no transaction is opened; an open one has failed, but that a COMMIT may also have ended it
abbrev pub StatusAfterFailure : TransactionStatus → List ℕ → TransactionStatus → Type 0
StatusAfterFailure before sql after =
    cond (is_idle before) (after ≡ statuses.Idle)
    (cond (bytes_eq sql (codes "COMMIT")) ((after ≡ statuses.Idle) ⊎ (after ≡ statuses.Error))
    (after ≡ statuses.Error))

-- the status behind a Query of some text, or behind a Sync, by whether an error has come; a Sync opens and ends no transaction
abbrev pub StatusAfter : List (List ℕ) → TransactionStatus → Option (List ℕ) → Bool → TransactionStatus → Type 0
StatusAfter openings before (Some sql) failed after = cond failed (StatusAfterFailure before sql after) (StatusAfterSuccess openings before sql after)
StatusAfter openings before None failed after = after ≡ (if failed then (if is_idle before then statuses.Idle else statuses.Error) else before)

-- ---- along a run

-- what the next ReadyForQuery rests on: the status that the last one told, the text of a Query whose response isn't at its end, and whether
-- an error has come since the last one
pub record Awaited : Type 0 where
  pub status : TransactionStatus
  pub sql : Option (List ℕ)
  pub failed : Bool

-- behind a ReadyForQuery that told this status
abbrev pub told : TransactionStatus → Awaited
told status = record { status = status; sql = None; failed = false }

abbrev pub is_error : BackendMessage → Bool
is_error (ErrorResponse details) = true
is_error _ = false

-- the status of the first ReadyForQuery
abbrev pub status_in : List BackendMessage → Option TransactionStatus
status_in [] = None
status_in (ReadyForQuery status ∷ rs) = Some status
status_in (r ∷ rs) = status_in rs

-- the text that a message's replies belong to: that of an open Query, else its own where it is a Query that isn't skipped
abbrev pub text_asked : Option (List ℕ) → FrontendMessage → List BackendMessage → Option (List ℕ)
text_asked (Some sql) message rs = Some sql
text_asked None (Query sql) (r ∷ rs) = Some sql
text_asked None message rs = None

-- with one more message and its replies, before a ReadyForQuery among them
abbrev pub awaited_with : Awaited → FrontendMessage → List BackendMessage → Awaited
awaited_with old message rs = record { status = old.status; sql = text_asked old.sql message rs; failed = old.failed || list_any is_error rs }

-- the same behind them
abbrev pub awaited_behind : Awaited → Option TransactionStatus → Awaited
awaited_behind waiting None = waiting
awaited_behind waiting (Some status) = told status

-- what ReadyForQuery tells is within the rule
abbrev pub TellsStatus : List (List ℕ) → Awaited → Option TransactionStatus → Type 0
TellsStatus openings waiting None = Unit {0}
TellsStatus openings waiting (Some after) = StatusAfter openings waiting.status waiting.sql waiting.failed after

-- a Query ROLLBACK that is answered, and not within the response to another Query, goes well
abbrev pub AnswersRollback : Option (List ℕ) → FrontendMessage → List BackendMessage → Type 0
AnswersRollback None (Query sql) (r ∷ rs) = cond (bytes_eq sql (codes "ROLLBACK")) ((tag : List ℕ) × (r ∷ rs ≡ CommandComplete tag ∷ ReadyForQuery statuses.Idle ∷ [])) (Unit {0})
AnswersRollback open' message rs = Unit {0}

-- each ReadyForQuery in the replies to each message of a list is within the rule
abbrev pub TellsStatuses : List (List ℕ) → Awaited → List FrontendMessage → List (List BackendMessage) → Type 0
TellsStatuses openings old (message ∷ messages) (rs ∷ rss) =
    AnswersRollback old.sql message rs × TellsStatus openings (awaited_with old message rs) (status_in rs)
    × TellsStatuses openings (awaited_behind (awaited_with old message rs) (status_in rs)) messages rss
TellsStatuses openings old _ _ = Unit {0}

-- The frames heard are replies to the frames sent, copies allowed, of a server that tells the transaction status by this rule from the end of
-- start-up on, where no transaction is open.
pub record AreTransactionReplies (openings : List (List ℕ)) (sent heard : List Frame) : Type 0 where
  pub are_replies : AreCopyReplies sent heard
  pub statuses : TellsStatuses openings (told statuses.Idle) are_replies.messages are_replies.replies
