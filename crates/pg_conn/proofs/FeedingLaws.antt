-- A copy from the client that is fed stays open, until all of its data is sent.
use Rattle.std.proofs.Common.{◌≡◌, ℕ, Bool, true, false, cond, nat_eq, List, [], ◌∷◌, ◌++◌, length, refl, sym, ◌∙◌, subst, arith, Option, Some, None, Result}
use Rattle.futures.specs.declared.task.Poll.{Poll}
use Rattle.pg_wire.specs.declared.error.Error.{Error}
use Rattle.pg_wire.specs.declared.error.ServerFault.{ServerFault}
use Rattle.pg_wire.specs.Frontend.{CopyData, CopyDone}
use Rattle.pg_stream.specs.Links.{LinkSeen}
use Rattle.pg_call.specs.declared.kind.Kind.TheVariants as kinds
use Rattle.pg_call.specs.declared.statement.Goal.{Goal}
use Rattle.pg_call.specs.declared.statement.Goal.TheVariants as goals
use Rattle.pg_call.specs.declared.after.After.{After}
use Rattle.pg_call.specs.declared.after.After.TheVariants as afters
use Rattle.pg_call.specs.declared.request.Request.{Request}
use Rattle.pg_call.specs.declared.request.Request.TheVariants as requests
use Rattle.pg_call.specs.declared.calling.Call.{Call}
use Rattle.pg_call.specs.declared.calling.Call.TheVariants as calls
use Rattle.pg_call.specs.Requests.{kind_of, main_kind, goal_kind, after_kind}
use Rattle.pg_call.specs.Hearing.{IsOpen, fed_whole}
use Rattle.pg_call.proofs.FitLaws.{main_alone}
use Rattle.pg_call.proofs.FeedLaws.{feeds_one, feeds_all}
use Rattle.pg_conn.specs.Connections.{ConnOf, ConnSeen, begun, copied, piece_of, seen_by, with_messages}
use Rattle.pg_conn.specs.Turns.{cleanup_of}
use Rattle.pg_conn.specs.States.{IsCalling}
use Rattle.pg_conn.specs.Feeding.{FeedsMore, IsFed, PollsFed, PollsFedBy}

no_goal : (goal : Goal) → goal_kind goal ≡ kinds.CopyIn → ⊥
no_goal (goals.Run how) k = cc
no_goal goals.Prepare k = cc

-- a copy from the client is one exchange
copies_alone : (r : Request) → main_kind r ≡ kinds.CopyIn → kind_of r ≡ kinds.CopyIn
copies_alone (requests.Describe x) k = absurd (no_goal x.goal k)
copies_alone (requests.Look lookup) k = absurd (no_goal lookup.extended.goal k)
copies_alone (requests.Evict eviction) k = absurd (no_after eviction.after k)
  where
    no_after : (after : After) → after_kind after ≡ kinds.CopyIn → ⊥
    no_after (afters.Run bound) k = cc
    no_after (afters.Fill filling) k = cc
    no_after (afters.Prepare prepared) k = cc
copies_alone (requests.Fill filling) k = absurd cc
copies_alone (requests.CopyIn feed) k = refl
copies_alone _ k = k

pub copies_main : (r : Request) → kind_of r ≡ kinds.CopyIn → main_kind r ≡ kinds.CopyIn
copies_main r k = main_alone r (λ d. no_description k d) ∙ k
  where
    no_description : kind_of r ≡ kinds.CopyIn → kind_of r ≡ kinds.Describe → ⊥
    no_description k d = let same : kinds.CopyIn ≡ kinds.Describe = sym k ∙ d in absurd cc

-- a piece of data is queued
pub fed_open : {A : Type 0} (c : ConnOf A) (bytes : List ℕ) → IsFed c → IsFed (with_messages (piece_of bytes) c)
fed_open {A} c bytes (i, open_) = by (nat_eq (length bytes) 0)
  where
    by : (b : Bool) → IsFed (with_messages (cond b [] (CopyData bytes ∷ [])) c)
    by true = ((i.0, i.1, i.2, i.3, i.4, i.5, i.6, i.7), open_)
    by false =
        let m = feeds_one i.0 i.1 i.2 i.3 i.4 c.ledger c.call bytes (copies_alone i.1 i.5) open_ i.6 in
        ((i.0, m.0, i.2 ++ CopyData bytes ∷ [], i.3, i.4, copies_main m.0 m.1.0, m.1.1, i.7), open_)

-- all of it is sent, and the end of the reply is awaited
pub same_room : (call : Call) → IsOpen call → cleanup_of (fed_whole call) ≡ cleanup_of call
same_room (calls.Own reply) o = refl
same_room calls.Idle o = absurd o
same_room (calls.Asked request) o = absurd o
same_room (calls.Waiting w) o = absurd o
same_room calls.Closing o = absurd o

no_level : (groups : ℕ) (b : Bool) → ◌≡◌ {A = ℕ} (cond b 0 0) 0
no_level groups true = refl
no_level groups false = refl

pub copied_calls : {A : Type 0} (c : ConnOf A) → IsFed c → IsCalling kinds.CopyIn (copied c)
copied_calls {A} c (i, open_) =
    let m = feeds_all i.0 i.1 i.2 i.3 i.4 c.ledger c.call (copies_alone i.1 i.5) open_ i.6 in
    let room = i.7 in
    (i.0, m.0, i.2 ++ CopyDone ∷ [], i.3, i.4, copies_main m.0 m.1.0, m.1.1, omega (arith, room, same_room c.call open_, no_level c.groups (nat_eq c.groups 0)))

-- what is queued is sent
sent_open : (a b : ConnSeen) (o : Option ServerFault) (answer : Poll (Result (Unit {0}) Error)) → PollsFedBy o a b answer → IsFed a → IsFed b
sent_open a b (Some fault) answer p f = subst (λ (c : ConnSeen). IsFed c) (sym p.0) f
sent_open a b None answer p f =
    let i = f.0 in
    let room = i.7 in
    subst (λ (c : ConnSeen). IsFed c) (sym p.2) ((i.0, i.1, i.2, i.3, i.4, i.5, i.6, omega (arith, room, p.1.spare)), f.1)

pub fed_more_open : {A : Type 0} (seen : A → LinkSeen) (a b : ConnOf A) (answer : Poll (Result (Unit {0}) Error)) → FeedsMore (seen_by seen a) (seen_by seen b) answer → IsFed a → IsFed b
fed_more_open seen a b answer p f = sent_open (seen_by seen a) (seen_by seen b) a.broken answer p f

pub polled_open : {A : Type 0} (seen : A → LinkSeen) (a b : ConnOf A) (answer : Poll (Result (Unit {0}) Error)) → PollsFed (seen_by seen a) (seen_by seen b) answer → IsFed a → IsFed b
polled_open seen a b answer p f = sent_open (begun (seen_by seen a)) (seen_by seen b) a.broken answer p f
