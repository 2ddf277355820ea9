-- What a connection makes of an exchange's end, once its call has ended or was dropped.
use Rattle.std.specs.Prelude.{◌≡◌, ℕ, zero, suc, ◌+◌, ◌-◌, ◌^◌, min, Bool, true, false, not, ◌&&◌, ◌||◌, List, [], ◌∷◌, ◌++◌, length, nat_eq, ltb, Option, None, Some, if◌then◌else◌}
use Rattle.pg_wire.specs.Backend.{BackendMessage}
use Rattle.pg_request.specs.declared.progress.CacheStep.{CacheStep}
use Rattle.pg_request.specs.declared.progress.CacheStep.TheVariants as cache
use Rattle.pg_call.specs.declared.kind.Keeping.{Keeping}
use Rattle.pg_call.specs.declared.request.Request.{Request}
use Rattle.pg_call.specs.Requests.{Group, said_in, spelled, keeping_of}
use Rattle.pg_rule.specs.declared.rule.Rule.{Rule}
use Rattle.pg_conn.specs.Connections.{rollback, with_depth}
use Rattle.pg_conn.specs.Holding.{release}
use Rattle.pg_conn.specs.Statements.{moved, unmoved, held_by, step_of}
use Rattle.pg_report.specs.declared.outcome.End.{End}
use Rattle.pg_report.specs.declared.outcome.Outcome.{Outcome}
use Rattle.pg_script.specs.declared.step.Call.{Call}
use Rattle.pg_script.specs.declared.step.Call.TheVariants as calls
use Rattle.pg_script.specs.declared.step.Step.{Step}
use Rattle.pg_play.specs.Shown.{LooksOn, request_of, begins, handed_by}
use Rattle.pg_play.specs.Places.{Place, owed, is_fine}

-- how many transactions and savepoints are open behind it: a begin that is Ok opens one, and a commit and a rollback that are close one
abbrev pub depth_after : ℕ → Call → End → ℕ
depth_after depth calls.Begin end = if is_fine end then min (depth + 1) (2 ^ 64 - 1) else depth
depth_after depth (calls.BeginWith query) end = if is_fine end then min (depth + 1) (2 ^ 64 - 1) else depth
depth_after depth calls.Commit end = if is_fine end then depth - 1 else depth
depth_after depth calls.Rollback end = if is_fine end then depth - 1 else depth
depth_after depth calls.StartRollback end = depth - 1
depth_after depth _ end = depth

-- ---- the statements that are kept (PostgreSQL manual, "Message Flow", "Extended Query")

abbrev pub has_group : List Group → Bool
has_group [] = false
has_group (group ∷ groups) = true

-- an exchange makes something of them where its group was queued, or it ends Ok
abbrev pub has_moved : List Group → End → Bool
has_moved own end = is_fine end || has_group own

abbrev pub statements_after : Keeping → Bool → Rule → Rule
statements_after keeping true rule = moved keeping rule
statements_after keeping false rule = unmoved keeping rule

-- what is told of that
abbrev pub step_after : Keeping → Bool → CacheStep
step_after keeping true = step_of keeping cache.Same
step_after keeping false = cache.Same

-- what it hands on: nothing, where it doesn't end Ok
abbrev pub handed_at : End → Call → List BackendMessage → Option Request
handed_at end call response = if is_fine end then handed_by call response else None

-- behind a description, and what was looked up for it, the statement is held that is to be kept
abbrev pub held_after : Option Request → Rule → Rule
held_after None rule = rule
held_after (Some next) rule = held_by rule next

-- what is known of the session behind it
abbrev pub rule_after : Rule → Call → List Group → Option Request → End → Rule
rule_after rule call own next end =
    held_after next (statements_after (keeping_of (request_of rule.depth call)) (has_moved own end) (with_depth (depth_after rule.depth call end) rule))

-- ---- the cleanup

-- the group of a rollback without waiting, where something is open and one reply more can be counted
abbrev pub rollback_at : ℕ → ℕ → List Group
rollback_at zero owed = []
rollback_at (suc left) owed = if ltb owed (2 ^ 64 - 1) then rollback left ∷ [] else []

-- the group of a release without waiting, where one reply more can be counted
abbrev pub release_at : List ℕ → ℕ → List Group
release_at text owed = if ltb owed (2 ^ 64 - 1) then release text ∷ [] else []

-- The groups of its cleanup. A begin outside of any transaction that isn't Ok, and whose group was queued, is rolled back.
abbrev pub cleanup_of : ℕ → Call → End → List Group → ℕ → List Group
cleanup_of depth calls.StartRollback end own owed = rollback_at depth owed
cleanup_of depth (calls.Release text) end own owed = release_at text owed
cleanup_of depth call end [] owed = []
cleanup_of depth call end (group ∷ own) owed = if begins call && (nat_eq depth 0 && not (is_fine end)) then rollback 0 ∷ [] else []

-- what is known of the first response that is owed: where none was, it is the cleanup's own
abbrev pub failed_behind : List Group → Place → Bool
failed_behind [] at = at.is_copy_failed
failed_behind (group ∷ groups) at = not (nat_eq (owed at) 0) && at.is_copy_failed

-- From the place where the exchange's call ended, of which this was told, the connection comes to the next one, which no exchange waits for.
pub record Settles (at : Place) (step : Step) (told out : Outcome) (own : List Group) (response : List BackendMessage) (ended_at next : Place) : Type 0 where
  pub cleanup : List Group
  pub cleans : cleanup ≡ cleanup_of at.rule.depth step.call told.end own (owed ended_at)
  -- what is asked next
  pub asks : Option Request
  pub looks : LooksOn (handed_at told.end step.call response) ended_at.learnt asks next.learnt
  pub rule : next.rule ≡ rule_after at.rule step.call own asks told.end
  pub said : next.said ≡ ended_at.said ++ said_in cleanup
  pub groups : next.groups ≡ ended_at.groups ++ cleanup
  -- nothing else is different: the cleanup is unsent, and takes of the room that was kept for it
  pub seen : next.seen ≡ record ended_at.seen { unsent = ended_at.seen.unsent ++ spelled (said_in cleanup); spare = next.seen.spare; waits = next.seen.waits; moves = next.seen.moves }
  pub frames : next.frames ≡ ended_at.frames
  pub failed : next.is_copy_failed ≡ failed_behind cleanup ended_at
  pub broken : next.broken ≡ ended_at.broken
  pub unfailed : next.has_failed ≡ ended_at.has_failed
  -- the outcome counts the groups of the cleanup too, and says what was made of the statements
  pub outcome : out ≡ record told { groups = out.groups; cache = out.cache }
  pub cache : out.cache ≡ step_after (keeping_of (request_of at.rule.depth step.call)) (has_moved own told.end)
  pub counted : out.groups ≡ length own + length cleanup
