-- No call of a connection says that a pool was closed.
use Rattle.std.proofs.Common.{◌≡◌, ◌++◌, inl, inr, ℕ, List, refl, subst, Option, Some, None, Result, Ok, Err}
use Rattle.futures.specs.declared.task.Poll.{Poll}
use Rattle.futures.specs.declared.task.Poll.TheVariants.{Ready, Pending}
use Rattle.pg_wire.specs.declared.error.Error.{Error}
use Rattle.pg_wire.specs.declared.error.Error.TheVariants as errors
use Rattle.pg_wire.specs.declared.error.ServerFault.{ServerFault}
use Rattle.pg_wire.specs.Backend.{Values}
use Rattle.pg_wire.specs.Frame.{Frame}
use Rattle.pg_wire.specs.Frontend.{FrontendMessage}
use Rattle.pg_call.specs.Answers.{total_turn}
use Rattle.pg_call.specs.Requests.{Group}
use Rattle.pg_call.specs.declared.answer.CallItem.{CallItem}
use Rattle.pg_call.specs.declared.answer.Turn.{Turn}
use Rattle.pg_call.specs.declared.answer.Turn.TheVariants as turns
use Rattle.pg_call.specs.declared.kind.Kind.{Kind}
use Rattle.pg_call.specs.declared.ledger.Ledger.{Ledger}
use Rattle.pg_call.specs.declared.query_result.PgQueryResult.{PgQueryResult}
use Rattle.pg_call.specs.declared.request.Request.{Request}
use Rattle.pg_stream.specs.Links.{LinkSeen}
use Rattle.pg_resolve.specs.Resolving.{Ends, ResolverSeen}
use Rattle.pg_learning.specs.declared.learnt.Learnt.{Learnt}
use Rattle.pg_learning.specs.declared.learnt.Seeking.{Seeking}
use Rattle.pg_learning.specs.declared.learnt.Seeking.TheVariants as seekings
use Rattle.pg_learning.specs.Learning.{FailsSeeking, TakesBy}
use Rattle.pg_conn.specs.Connections.{ConnOf, ConnSeen, begun_with, resolved, seen_by}
use Rattle.pg_conn.specs.States.{IsCalling, turn_of}
use Rattle.pg_conn.specs.Looking.{LookFails}
use Rattle.pg_conn.specs.Turns.{EndsBy, FailsBy, PollsBy, PollsOn, PollsWithin}
use Rattle.pg_conn.proofs.StateLaws.{first_calls, last_calls, resolved_calls}
use Rattle.pg_listening.specs.Listening.{IsOpenPool, NoneClosed, TurnsOpen}

-- it is not that error
pub open_unless : (e : Error) → ((place : ℕ) → e ≡ errors.PoolClosed place → ⊥) → IsOpenPool e
open_unless (errors.PoolClosed place) f = absurd (f place refl)
open_unless _ f = tt

-- ---- a lookup

unsettled_closed : (s : ResolverSeen) (place : ℕ) → Ends s (Err (errors.PoolClosed place)) → ⊥
unsettled_closed s place (inl e, some) = absurd cc
unsettled_closed s place (inr e, some) = absurd cc

seeking_closed : (seeking : Seeking) (place : ℕ) → FailsSeeking seeking (errors.PoolClosed place) → ⊥
seeking_closed (seekings.Types s) place f = unsettled_closed s place f.1
seeking_closed (seekings.Names asked) place f = f
seeking_closed seekings.Nothing place f = f

row_closed : (seeking : Seeking) (values : Values) (a b : Learnt) (place : ℕ) → TakesBy seeking values a b (Err (errors.PoolClosed place)) → ⊥
row_closed (seekings.Types s) values a b place (tables, inl (inl e, types)) = absurd cc
row_closed (seekings.Types s) values a b place (tables, inl (inr (column, e, unread), types)) = absurd cc
row_closed (seekings.Types s) values a b place (tables, inr (row, is, keeps, inl e)) = absurd cc
row_closed (seekings.Types s) values a b place (tables, inr (row, is, keeps, inr (one, d, held, sound, refuses, e))) = absurd cc
row_closed (seekings.Names asked) values a b place (types, inl (inl e, tables)) = absurd cc
row_closed (seekings.Names asked) values a b place (types, inl (inr (column, e, unread), tables)) = absurd cc
row_closed (seekings.Names asked) values a b place (types, inr (row, is, keeps, e)) = absurd cc
row_closed seekings.Nothing values a b place (same, e) = absurd cc

look_closed : (r : Request) (hs : List Frame) (learnt : Learnt) (place : ℕ) → LookFails r hs learnt (errors.PoolClosed place) → ⊥
look_closed r hs learnt place (names, is, inl f) = seeking_closed learnt.seeking place f
look_closed r hs learnt place (names, is, inr (inl (front, values, before, parts, has, takes))) = row_closed before.seeking values before learnt place takes
look_closed r hs learnt place (names, is, inr (inr misses)) = misses

-- ---- an exchange

fails_closed : (a b : ConnSeen) (start : Ledger) (r : Request) (own : List Group) (hs : List Frame) (place : ℕ) → FailsBy a b start r own hs (errors.PoolClosed place) → ⊥
fails_closed a b start r own hs place (inl f) = f.0
fails_closed a b start r own hs place (inr (inl f)) = f.5
fails_closed a b start r own hs place (inr (inr f)) = look_closed r hs b.learnt place f

ends_closed : (a b : ConnSeen) (start : Ledger) (r : Request) (said : List FrontendMessage) (hs : List Frame) (items : List CallItem) (place : ℕ) → EndsBy a b start r said hs items (errors.PoolClosed place) → ⊥
ends_closed a b start r said hs items place (inl f) = f
ends_closed a b start r said hs items place (inr f) = fails_closed a b start r f.0.own hs place f.2

through_closed : (begun b : ConnSeen) (kind : Kind) (place : ℕ) → PollsOn begun b (Ready (turns.Err (errors.PoolClosed place))) → IsCalling kind begun → ⊥
through_closed begun b kind place p i =
    let k = resolved_calls kind p.last (last_calls kind p.later begun p.last p.hands i) in
    let turned = p.polled.turns.3 in
    let told = turned.tells k.0 k.1 k.2 k.3 k.4 k.6 in
    ends_closed (resolved p.last) p.polled.stopped k.0 k.1 (k.2 ++ told.0) (k.3 ++ p.polled.turns.2) k.4 place told.3.1

within_closed : (o : Option ServerFault) (begun a b : ConnSeen) (kind : Kind) (place : ℕ) → PollsBy o begun a b (Ready (turns.Err (errors.PoolClosed place))) → IsCalling kind begun → ⊥
within_closed None begun a b kind place p i = through_closed p.0 b kind place p.2 (first_calls kind begun p.0 b (Ready (turns.Err (errors.PoolClosed place))) p.1 i)
within_closed (Some fault) begun a b kind place p i = absurd cc

-- ---- a call of any kind

pub turns_open : {A : Type 0} (seen : A → LinkSeen) (left : ℕ) (a b : ConnOf A) (kind : Kind) (answer : Poll Turn) → IsCalling kind a → PollsWithin left (seen_by seen a) (seen_by seen b) answer → TurnsOpen answer
turns_open {A} seen left a b kind (Ready (turns.Err e)) i p = open_unless e by
  where
    by : (place : ℕ) → e ≡ errors.PoolClosed place → ⊥
    by place is = within_closed a.broken (begun_with left (seen_by seen a)) (seen_by seen a) (seen_by seen b) kind place (subst (λ (x : Error). PollsBy a.broken (begun_with left (seen_by seen a)) (seen_by seen a) (seen_by seen b) (Ready (turns.Err x))) is p) i
turns_open seen left a b kind Pending i p = tt
turns_open seen left a b kind (Ready (turns.Ok answer)) i p = tt
turns_open seen left a b kind (Ready (turns.Item item)) i p = tt
turns_open seen left a b kind (Ready (turns.Opened opened)) i p = tt

-- ---- a statement

pub statement_open : {A : Type 0} (seen : A → LinkSeen) (left : ℕ) (a b : ConnOf A) (kind : Kind) (answer : Poll (Result PgQueryResult Error)) → IsCalling kind a → PollsWithin left (seen_by seen a) (seen_by seen b) (turn_of total_turn answer) → NoneClosed answer
statement_open seen left a b kind Pending i p = tt
statement_open seen left a b kind (Ready (Ok total)) i p = tt
statement_open {A} seen left a b kind (Ready (Err e)) i p = open_unless e by
  where
    by : (place : ℕ) → e ≡ errors.PoolClosed place → ⊥
    by place is = within_closed a.broken (begun_with left (seen_by seen a)) (seen_by seen a) (seen_by seen b) kind place (subst (λ (x : Error). PollsBy a.broken (begun_with left (seen_by seen a)) (seen_by seen a) (seen_by seen b) (Ready (turns.Err x))) is p) i
