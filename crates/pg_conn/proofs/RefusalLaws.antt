-- A request that no frame can say is refused by its first poll, and a flush with nothing to do is done by its first poll.
use Rattle.std.proofs.Common.{◌≡◌, ◌⊎◌, inl, inr, List, [], ◌∷◌, refl, ap, ◌∙◌, subst, Ok, Err, Option, Some, None, Bool, true, false, cond, nat_eq, sym, ℕ, ◌+◌, ◌-◌, ◌^◌, min, arith, leb, not, ◌&&◌, length}
use Rattle.futures.specs.declared.task.Poll.{Poll}
use Rattle.futures.specs.declared.task.Poll.TheVariants.{Ready, Pending}
use Rattle.pg_wire.specs.declared.error.Error.{Error}
use Rattle.pg_wire.specs.declared.error.ServerFault.{ServerFault}
use Rattle.pg_call.specs.declared.request.Request.{Request}
use Rattle.pg_call.specs.declared.request.Request.TheVariants as requests
use Rattle.pg_call.specs.declared.answer.CallAnswer.TheVariants as answers
use Rattle.pg_call.specs.declared.answer.Turn.{Turn}
use Rattle.pg_call.specs.declared.answer.Turn.TheVariants as turns
use Rattle.pg_call.specs.declared.calling.Beat.TheVariants as beats
use Rattle.pg_call.specs.declared.calling.Call.TheVariants as calls
use Rattle.pg_call.specs.Requests.{CanBeSaid, IsRefusal, copy_fail, spelled}
use Rattle.pg_call.proofs.RefusalLaws.{refusal_is}
use Rattle.pg_conn.specs.Connections.{ConnSeen, idle, started_call, begun, left, cleaned, copies, ends_copy, owned, unfed, with_copy_fail, settled, ended, resolved, restated, runs, may_open, has_room_for, with_group, rollback}
use Rattle.pg_conn.specs.Looking.{AsksNamed, named_by}
use Rattle.pg_conn.specs.Statements.{moved, unmoved, step_of}
use Rattle.pg_conn.specs.Turns.{BeginsBy, Refused, Polled, PollsThrough, HandsOver, PollsBy, PollsCall, beat_of, broken_by, first_exchange, RefusesAtOnce, FlushesAtOnce, behind}
use Rattle.pg_conn.proofs.StateLaws.{named_asked}

-- a refusal is no fault of the server
pub refusal_breaks_none : (r : Request) (e : Error) → IsRefusal r e → broken_by (beats.Ends (Err e)) ≡ None
refusal_breaks_none r e h = elim (refusal_is r e h) [
  | inl memory ↦ ap (λ (x : Error). broken_by (beats.Ends (Err x))) memory
  | inr (fault, is) ↦ ap (λ (x : Error). broken_by (beats.Ends (Err x))) is
]

-- a start leaves whole what is whole
broken_restated : (c : ConnSeen) → (restated c).broken ≡ c.broken
broken_restated c = by (nat_eq c.groups 0)
  where
    by : (b : Bool) → (cond b (record c { rule = unmoved c.keeping c.rule }) (record c { rule = moved c.keeping c.rule; cache = step_of c.keeping c.cache })).broken ≡ c.broken
    by true = refl
    by false = refl

broken_unfed : (over : Bool) (c : ConnSeen) → (unfed over c).broken ≡ c.broken
broken_unfed over c = by (copies c.change c.groups && (not over && leb (length (spelled (copy_fail ∷ []))) c.stream.spare))
  where
    by : (b : Bool) → (cond b (with_copy_fail c) (owned c)).broken ≡ c.broken
    by true = refl
    by false = refl

broken_cleaned : (c : ConnSeen) → (cleaned c).broken ≡ c.broken
broken_cleaned c = by (may_open c.change c.groups c.rule.depth) (has_room_for (spelled (rollback 0)) (restated c))
  where
    by : (m h : Bool) → (ended (cond m (cond h (with_group (spelled (rollback 0)) (restated c)) (restated c)) (restated c))).broken ≡ c.broken
    by false h = broken_restated c
    by true false = broken_restated c
    by true true = broken_restated c

broken_left : (a : ConnSeen) → (left a).broken ≡ a.broken
broken_left a = by (runs a.call)
  where
    by : (r : Bool) → (cond r (idle (cleaned (unfed false a))) a).broken ≡ a.broken
    by false = refl
    by true = broken_cleaned (unfed false a) ∙ broken_unfed false a

pub broken_started : (a : ConnSeen) (request : Request) → (started_call request a).broken ≡ a.broken
broken_started a request = broken_left a

-- a poll from a start
first_polls : (a b : ConnSeen) (request : Request) (answer : Poll Turn) → a.broken ≡ None → PollsCall (started_call request a) b answer → PollsThrough (begun (started_call request a)) b answer
first_polls a b request answer whole p =
    let first = started_call request a in
    subst (λ (o : Option ServerFault). PollsBy o (begun first) first b answer) (broken_started a request ∙ whole) p

refuses_once : (a b : ConnSeen) (request : Request) (answer : Poll Turn) → Polled (resolved (begun (started_call request a))) b (beat_of answer) → (CanBeSaid (first_exchange request a) → ⊥) → RefusesAtOnce request a b answer
refuses_once a b request answer polled unsaid = elim polled.says [
  | inl can ↦ absurd (unsaid can)
  | inr refused ↦ by answer polled.stopped polled.whole polled.behind_is refused
]
  where
    by : (answer : Poll Turn) (s : ConnSeen) → s.broken ≡ None → b ≡ behind (beat_of answer) s → Refused (resolved (begun (started_call request a))) s (beat_of answer) → RefusesAtOnce request a b answer
    by Pending s w k r = absurd r
    by (Ready (turns.Item item)) s w k r = absurd r
    by (Ready (turns.Ok answer)) s w k r = absurd r
    by (Ready (turns.Opened opened)) s w k r = absurd r
    by (Ready (turns.Err e)) s w k r = (
      e,
      refl,
      r.0,
      k ∙ ap (λ (o : Option ServerFault). cleaned (unfed (ends_copy e) (record s { broken = o }))) (refusal_breaks_none (first_exchange request a) e r.0 ∙ sym w) ∙ ap (λ (c : ConnSeen). cleaned (unfed (ends_copy e) c)) r.1,
    )

pub refuses_at_once : (a b : ConnSeen) (request : Request) (answer : Poll Turn) → a.broken ≡ None → PollsCall (started_call request a) b answer → (CanBeSaid (first_exchange request a) → ⊥) → RefusesAtOnce request a b answer
refuses_at_once a b request answer whole p unsaid =
    let t = first_polls a b request answer whole p in
    by t.2.later t.2.last (subst (λ (c : ConnSeen). HandsOver c t.2.later t.2.last) (first t.0 t.1) t.2.hands) t.2.polled
  where
    same : (told : Request) → calls.Asked (first_exchange request a) ≡ calls.Asked told → first_exchange request a ≡ told
    same told e = cc

    named : (c : ConnSeen) (o : Option Request) → named_by (calls.Asked (first_exchange request a)) ≡ o → AsksNamed o (begun (started_call request a)) c → c ≡ begun (started_call request a)
    named c None e asks = asks
    named c (Some told) e (can, asks) = absurd (unsaid (subst CanBeSaid (sym (same told (named_asked (calls.Asked (first_exchange request a)) told e))) can))

    -- so nothing is looked up for it
    first : (c : ConnSeen) → BeginsBy (begun (started_call request a)) c b answer → c ≡ begun (started_call request a)
    first c (inl asks) = named c (named_by (calls.Asked (first_exchange request a))) refl asks
    first c (inr (is, refuses)) = is

    said : CanBeSaid (first_exchange request a) ⊎ ⊥ → ⊥
    said (inl can) = unsaid can
    said (inr refused) = refused

    by : (later : List Request) (last : ConnSeen) → HandsOver (begun (started_call request a)) later last → Polled (resolved last) b (beat_of answer) → RefusesAtOnce request a b answer
    by [] last h polled = refuses_once a b request answer (subst (λ (c : ConnSeen). Polled (resolved c) b (beat_of answer)) h polled) unsaid
    by (next ∷ later) last h polled = absurd (said h.1.2.says)

flushes_once : (a b : ConnSeen) (answer : Poll Turn) → (left a).ledger.owed ≡ 0 → (left a).stream.unsent ≡ [] → Polled (resolved (begun (started_call requests.Flush a))) b (beat_of answer) → FlushesAtOnce a b answer
flushes_once a b answer owed sent polled =
    let done = polled.flush (rw (owed, sent) refl) in
    by answer polled.stopped polled.behind_is done.0 done.1
  where
    none : min (0 + 0) (2 ^ 64 - 1) ≡ 0
    none = omega arith

    by : (answer : Poll Turn) (s : ConnSeen) → b ≡ behind (beat_of answer) s → beat_of answer ≡ beats.Ends (Ok answers.Unit) → s ≡ idle (resolved (begun (started_call requests.Flush a))) → FlushesAtOnce a b answer
    by Pending s k e is = absurd cc
    by (Ready (turns.Item item)) s k e is = absurd cc
    by (Ready (turns.Ok answer)) s k e is = (cc, k ∙ ap (λ (c : ConnSeen). settled c) is ∙ ap (λ (n : ℕ). record (ended (idle (begun (started_call requests.Flush a)))) { earlier = n }) none)
    by (Ready (turns.Err error)) s k e is = absurd cc
    by (Ready (turns.Opened opened)) s k e is = absurd cc

pub flushes_at_once : (a b : ConnSeen) (answer : Poll Turn) → a.broken ≡ None → (left a).ledger.owed ≡ 0 → (left a).stream.unsent ≡ [] → PollsCall (started_call requests.Flush a) b answer → FlushesAtOnce a b answer
flushes_at_once a b answer whole owed sent p =
    let t = first_polls a b requests.Flush answer whole p in
    by t.2.later t.2.last (subst (λ (c : ConnSeen). HandsOver c t.2.later t.2.last) (first t.0 t.1) t.2.hands) t.2.polled
  where
    first : (c : ConnSeen) → BeginsBy (begun (started_call requests.Flush a)) c b answer → c ≡ begun (started_call requests.Flush a)
    first c (inl is) = is
    first c (inr (is, refuses)) = is

    hands_none : (m : ConnSeen) (next : Request) → Polled (resolved (begun (started_call requests.Flush a))) m (beats.HandsOn next) → ⊥
    hands_none m next polled =
        let done : beats.HandsOn next ≡ beats.Ends (Ok answers.Unit) = (polled.flush (rw (owed, sent) refl)).0 in
        cc

    by : (later : List Request) (last : ConnSeen) → HandsOver (begun (started_call requests.Flush a)) later last → Polled (resolved last) b (beat_of answer) → FlushesAtOnce a b answer
    by [] last h polled = flushes_once a b answer owed sent (subst (λ (c : ConnSeen). Polled (resolved c) b (beat_of answer)) h polled)
    by (next ∷ later) last h polled = absurd (hands_none h.1.1 h.1.0 h.1.2)
